use Rattle.mu_num.proofs.Common.{◌*◌, ◌^◌, ◌≡◌, min}
use Rattle.mu_num.proofs.literal.shift_literal_digits.Given as goal

abbrev pub invariant-loop : goal.invariant-loop
invariant-loop l = l.power ≡ min (l.number * 10 ^ l.counter) (2 ^ 64)
