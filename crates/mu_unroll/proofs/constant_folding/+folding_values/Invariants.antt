use Rattle.mu_unroll.proofs.Common.{drop, factors_of, map, meant_at, scaled, signed, terms_of}
use Rattle.mu_unroll.proofs.Folding.{IsPartialProduct, IsPartialSum}
use Rattle.mu_unroll.proofs.constant_folding.+folding_values.Given as goal

-- the value of what is left is that of the whole
abbrev pub invariant-folded_sum_value-loop-term : goal.invariant-folded_sum_value-loop-term
invariant-folded_sum_value-loop-term l =
    IsPartialSum (meant_at l.declared) l.total (terms_of (map signed (drop l.term-index l.terms)))
    (terms_of (map signed l.terms))

abbrev pub invariant-folded_product_value-loop-factor :
    goal.invariant-folded_product_value-loop-factor
invariant-folded_product_value-loop-factor l =
    IsPartialProduct (meant_at l.declared) l.total
    (factors_of (map scaled (drop l.factor-index l.factors))) (factors_of (map scaled l.factors))
