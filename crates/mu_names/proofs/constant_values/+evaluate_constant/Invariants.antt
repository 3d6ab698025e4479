use Rattle.mu_names.proofs.Common
use Common.{◌≡◌, drop, factors_of, least_of, map, pos, product_faults, product_value, scaled}
use Common.{signed, Some, sum_faults, sum_value, terms_of, whole}
use Rattle.mu_names.proofs.constant_values.+evaluate_constant.Given as goal

-- the value and the faults of what is left are those of the whole
abbrev pub invariant-evaluate_constant_product-loop-factor : goal.invariant-evaluate_constant_product-loop-factor
invariant-evaluate_constant_product-loop-factor g l = record {
  value : product_value (g.M.Meanings.meaning l.meanings) l.total (factors_of (map scaled (drop l.factor-index l.factors)))
      ≡ product_value (g.M.Meanings.meaning l.meanings) (Some (whole (pos 1))) (factors_of (map scaled l.factors));
  faults : least_of l.least (product_faults (g.M.Meanings.meaning l.meanings) l.total (factors_of (map scaled (drop l.factor-index l.factors))))
      ≡ least_of l.initial.least (product_faults (g.M.Meanings.meaning l.meanings) (Some (whole (pos 1))) (factors_of (map scaled l.factors)));
}

abbrev pub invariant-evaluate_constant_sum-loop-term : goal.invariant-evaluate_constant_sum-loop-term
invariant-evaluate_constant_sum-loop-term g l = record {
  value : sum_value (g.M.Meanings.meaning l.meanings) l.total (terms_of (map signed (drop l.term-index l.terms)))
      ≡ sum_value (g.M.Meanings.meaning l.meanings) (Some (whole (pos 0))) (terms_of (map signed l.terms));
  faults : least_of l.least (sum_faults (g.M.Meanings.meaning l.meanings) l.total (terms_of (map signed (drop l.term-index l.terms))))
      ≡ least_of l.initial.least (sum_faults (g.M.Meanings.meaning l.meanings) (Some (whole (pos 0))) (terms_of (map signed l.terms)));
}
