use Rattle.cert_check.proofs.Common
use Common.{ℕ, ◌<◌, ◌≡◌, certificate_data, IsPartInRange, IsSquare, length, matrix_of, system}
use Common.{table}
use Rattle.cert_check.proofs.inequality_sides.stage_row.Given as goal

abbrev pub invariant-loop-j : goal.invariant-loop-j
invariant-loop-j l = record {
  size : length l.rows ≡ l.m.n;
  square : IsSquare l.rows;
  in_range : (k : ℕ) → k < l.j → IsPartInRange (system l.m) (certificate_data l.x) l.stage l.i k;
  value : (k : ℕ) → k < l.j → table l.rows l.i k ≡ matrix_of (system l.m) (certificate_data l.x) l.stage l.i k;
}
