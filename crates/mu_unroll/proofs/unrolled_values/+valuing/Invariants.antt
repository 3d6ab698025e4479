use Rattle.mu_unroll.proofs.Common
use Common.{◌≡◌, constants_in, denoted, drop, factors_of, map, pos, product_value, scaled, signed}
use Common.{sum_value, terms_of, whole, zero_value}
use Rattle.mu_unroll.proofs.unrolled_values.+valuing.Given as goal

-- the value of what is left is that of the whole
abbrev pub invariant-sum_value-loop-term : goal.invariant-sum_value-loop-term
invariant-sum_value-loop-term l =
    sum_value (constants_in (denoted l.env)) l.total (terms_of (map signed (drop l.term-index l.terms)))
    ≡ sum_value (constants_in (denoted l.env)) zero_value (terms_of (map signed l.terms))

abbrev pub invariant-product_value-loop-factor : goal.invariant-product_value-loop-factor
invariant-product_value-loop-factor l =
    product_value (constants_in (denoted l.env)) l.total (factors_of (map scaled (drop l.factor-index l.factors)))
    ≡ product_value (constants_in (denoted l.env)) (whole (pos 1)) (factors_of (map scaled l.factors))
