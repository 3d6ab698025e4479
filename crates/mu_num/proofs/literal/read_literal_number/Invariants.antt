use Rattle.mu_num.proofs.Common.{◌^◌, ◌≡◌, min, number_of, take}
use Rattle.mu_num.proofs.literal.read_literal_number.Given as goal

abbrev pub invariant-loop-byte : goal.invariant-loop-byte
invariant-loop-byte l = l.number ≡ min (number_of (take l.byte-index l.text)) (2 ^ 64)
