use Rattle.cert_check.proofs.Common
use Common.{ℕ, ◌*ℤ◌, ◌<◌, ◌≡◌, abs_of, certificate_data, IsProductEntryInRange, level_error}
use Common.{product, sum_below, system, weight}
use Rattle.cert_check.specs.Ranges.{IsWidthInRange}
use Rattle.cert_check.proofs.inequality_sides.width_sum_at.Given as goal

abbrev pub invariant-loop-j : goal.invariant-loop-j
invariant-loop-j l = record {
  entries : (k : ℕ) → k < l.j → IsProductEntryInRange (system l.m) (certificate_data l.x) l.i k;
  widths : (k : ℕ) → k < l.j → IsWidthInRange (certificate_data l.x) k;
  total : l.sum.total ≡ sum_below l.j (λ k. abs_of (product l.m.n (certificate_data l.x).pm (system l.m).coef l.i k) *ℤ level_error (certificate_data l.x) k);
  weight : l.sum.weight ≡ weight l.j (product l.m.n (certificate_data l.x).pm (system l.m).coef l.i) (level_error (certificate_data l.x));
}
