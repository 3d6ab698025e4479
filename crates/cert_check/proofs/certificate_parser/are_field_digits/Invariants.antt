use Rattle.cert_check.proofs.Common.{ℕ, ◌<◌, ◌≡◌, get_or, is_ascii_digit, true}
use Rattle.cert_check.proofs.certificate_parser.are_field_digits.Given as goal

abbrev pub invariant-loop-byte : goal.invariant-loop-byte
invariant-loop-byte l = (k : ℕ) → k < l.byte-index → is_ascii_digit (get_or l.bytes k 0) ≡ true
