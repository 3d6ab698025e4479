use Rattle.cert_check.proofs.Common
use Common.{[], ◌+◌, ◌-◌, ◌<◌, ◌≡◌, ◌≤◌, drop, false, fields_of, get_or, is_no_number, IsVector}
use Common.{map, number_in, position_from, Some, take}
use Rattle.cert_check.proofs.certificate_parser.parse_certificate_numbers.Given as goal

abbrev pub invariant-loop-place : goal.invariant-loop-place
invariant-loop-place l = record {
  some : 1 ≤ l.place;
  spelt : map number_in (take (l.place - 1) (drop 1 (fields_of l.found))) ≡ map (λ z. Some z) l.row.items;
  numbers : IsVector (l.place - 1) l.row.items;
  first : 1 < l.place → is_no_number (get_or (fields_of l.found) 1 []) ≡ false;
  faults : position_from is_no_number 2 (drop 1 (fields_of l.found)) ≡ position_from is_no_number (l.place + 1) (drop l.place (fields_of l.found));
}
