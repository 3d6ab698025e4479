use Rattle.cert_matrix.proofs.Common.{◌*ℤ◌, ◌≡◌, sum_below, table, vector, weight}
use Rattle.cert_matrix.proofs.matrix.multiply_matrix_row.Given as goal

abbrev pub invariant-loop-j : goal.invariant-loop-j
invariant-loop-j l = record {
  total : l.sum.total ≡ sum_below l.j (λ k. table l.m l.i k *ℤ vector l.y k);
  weight : l.sum.weight ≡ weight l.j (table l.m l.i) (vector l.y);
}
