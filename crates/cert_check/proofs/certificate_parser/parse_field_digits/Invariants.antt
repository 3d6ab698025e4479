use Rattle.cert_check.proofs.Common.{◌^◌, ◌≡◌, ◌≤◌, digits_value, take}
use Rattle.cert_check.proofs.certificate_parser.parse_field_digits.Given as goal

abbrev pub invariant-loop-byte : goal.invariant-loop-byte
invariant-loop-byte l = record {
  value : l.value ≡ digits_value 10 (take l.byte-index l.digits);
  small : l.value ≤ 2 ^ 126;
}
