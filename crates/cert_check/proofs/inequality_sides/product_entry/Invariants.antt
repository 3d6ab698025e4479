use Rattle.cert_check.proofs.Common.{◌*ℤ◌, ◌≡◌, sum_below, table, weight}
use Rattle.cert_check.proofs.inequality_sides.product_entry.Given as goal

abbrev pub invariant-loop-k : goal.invariant-loop-k
invariant-loop-k l = record {
  total : l.sum.total ≡ sum_below l.k (λ h. table l.x.pm l.i h *ℤ table l.m.coef h l.j);
  weight : l.sum.weight ≡ weight l.k (table l.x.pm l.i) (λ h. table l.m.coef h l.j);
}
