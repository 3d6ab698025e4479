use Rattle.cert_matrix.proofs.Common.{◌+ℤ◌, ◌+◌, ◌≡◌, drop, products, weights}
use Rattle.cert_matrix.proofs.weighing.weigh.Given as goal

abbrev pub invariant-loop-term : goal.invariant-loop-term
invariant-loop-term l = record {
  total : l.sum.total +ℤ products (drop l.term-index l.terms) ≡ products l.terms;
  weight : l.sum.weight + weights (drop l.term-index l.terms) ≡ weights l.terms;
}
