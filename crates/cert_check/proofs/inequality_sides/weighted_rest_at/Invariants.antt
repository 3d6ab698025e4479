use Rattle.cert_check.proofs.Common
use Common.{ℕ, ◌*ℤ◌, ◌<◌, ◌≡◌, centre_slope, certificate_data, sum_below, system, table, weight}
use Rattle.cert_check.specs.Ranges.{IsRestInRange}
use Rattle.cert_check.proofs.inequality_sides.weighted_rest_at.Given as goal

abbrev pub invariant-loop-j : goal.invariant-loop-j
invariant-loop-j l = record {
  rests : (k : ℕ) → k < l.j → IsRestInRange (system l.m) (certificate_data l.x) k;
  total : l.sum.total ≡ sum_below l.j (λ k. table l.x.pm l.i k *ℤ centre_slope (system l.m) (certificate_data l.x) k);
  weight : l.sum.weight ≡ weight l.j (table l.x.pm l.i) (centre_slope (system l.m) (certificate_data l.x));
}
