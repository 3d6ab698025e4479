use Rattle.cert_check.proofs.Common.{◌*ℤ◌, ◌+ℤ◌, ◌+◌, ◌≡◌, sum_below, table, vector, weight}
use Rattle.cert_check.proofs.inequality_sides.rest_slope_at.Given as goal

abbrev pub invariant-loop-k : goal.invariant-loop-k
invariant-loop-k l = record {
  total : l.sum.total ≡ l.initial.sum.total +ℤ sum_below l.k (λ i. table l.m.coef l.j i *ℤ vector l.x.c i);
  weight : l.sum.weight ≡ l.initial.sum.weight + weight l.k (table l.m.coef l.j) (vector l.x.c);
}
