use Rattle.cert_check.proofs.Common.{◌*ℤ◌, ◌≡◌, pos, sum_below, vector, weight}
use Rattle.cert_check.proofs.inequality_sides.sum_side_terms.Given as goal

abbrev pub invariant-loop-i : goal.invariant-loop-i
invariant-loop-i l = record {
  total : l.sum.total ≡ sum_below l.i (λ k. vector l.numbers k *ℤ pos 1);
  weight : l.sum.weight ≡ weight l.i (vector l.numbers) (λ _. pos 1);
}
