use Rattle.cert_check.proofs.Common
use Common.{ℕ, ◌*ℤ◌, ◌+ℤ◌, ◌+◌, ◌<◌, ◌≡◌, abs_of, certificate_data, sum_below, table, vector}
use Common.{weight}
use Rattle.cert_check.specs.Ranges.{IsReachSumInRange}
use Rattle.cert_check.proofs.inequality_sides.slope_bound_at.Given as goal

abbrev pub invariant-loop-k : goal.invariant-loop-k
invariant-loop-k l = record {
  reaches : (k : ℕ) → k < l.k → IsReachSumInRange (certificate_data l.x) k;
  total : l.sum.total ≡ l.initial.sum.total +ℤ sum_below l.k (λ i. abs_of (table l.m.coef l.j i) *ℤ (vector l.x.z i +ℤ vector l.x.q i));
  weight : l.sum.weight ≡ l.initial.sum.weight + weight l.k (table l.m.coef l.j) (λ i. vector l.x.z i +ℤ vector l.x.q i);
}
