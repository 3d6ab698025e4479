use Rattle.cert_check.proofs.Common
use Common.{ℕ, ◌<◌, ◌≡◌, IsSquare, length, start_coefficient, state_count, table}
use Rattle.cert_check.proofs.machine_system.affine_coefficients.Given as goal

abbrev pub invariant-loop-j : goal.invariant-loop-j
invariant-loop-j l = record {
  size : length l.coef ≡ state_count l.m;
  square : IsSquare l.coef;
  rows : (i c : ℕ) → i < l.j → c < state_count l.m → table l.coef i c ≡ start_coefficient l.m i c;
}
