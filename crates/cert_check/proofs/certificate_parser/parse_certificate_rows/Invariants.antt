use Rattle.cert_check.proofs.Common
use Common.{[], ℕ, ◌<◌, ◌≡◌, ◌≤◌, due_at, fields_of, get_or, IsReadAs, layout, length, map, take}
use Rattle.cert_check.proofs.Faults.{LeftAt}
use Rattle.cert_check.proofs.certificate_parser.parse_certificate_rows.Given as goal

abbrev pub invariant-loop-k : goal.invariant-loop-k
invariant-loop-k l = record {
  as_many : length l.rows.items ≡ l.k;
  enough : l.k ≤ length l.records;
  left : LeftAt (take l.count (layout l.n)) (map fields_of l.records) l.k;
  each : (j : ℕ) → j < l.k → IsReadAs (due_at l.n j) (get_or (map fields_of l.records) j []) (get_or l.rows.items j []);
}
