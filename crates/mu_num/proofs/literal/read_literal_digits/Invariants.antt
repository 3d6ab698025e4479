use Rattle.mu_num.proofs.Common.{◌^◌, ◌≡◌, ◌≤◌, min, significand, take}
use Rattle.mu_num.proofs.literal.read_literal_digits.Given as goal

abbrev pub invariant-loop-byte : goal.invariant-loop-byte
invariant-loop-byte l = record {
  number : l.digits.number ≡ min (significand (take l.byte-index l.text)).number (2 ^ 64);
  zeros : l.digits.zeros ≡ (significand (take l.byte-index l.text)).zeros;
  few : l.digits.zeros ≤ l.byte-index;
}
