use Rattle.cert_check.proofs.Common
use Common.{ℕ, ◌<◌, ◌≡◌, IsSquare, length, start_coefficient, state_count, table}
use Rattle.cert_check.proofs.machine_system.write_row.Given as goal

abbrev pub invariant-loop-k : goal.invariant-loop-k
invariant-loop-k l = record {
  size : length l.coef ≡ state_count l.m;
  square : IsSquare l.coef;
  row : (c : ℕ) → c < l.k → table l.coef l.j c ≡ start_coefficient l.m l.j c;
  others : (i c : ℕ) → i < l.j → c < state_count l.m → table l.coef i c ≡ table l.initial.coef i c;
}
