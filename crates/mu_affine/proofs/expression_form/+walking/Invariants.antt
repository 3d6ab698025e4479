use Rattle.mu_affine.proofs.Common
use Common.{◌≡◌, AreNumbered, AreNumberedFactors, constant_form, context_of, drop, flat_factors_of}
use Common.{flat_scaled, flat_signed, flat_terms_of, form_meaning, IsFinished, IsOver, IsReducedSum}
use Common.{length, map, none, Ok, pos, product_of, sum_form, sum_meaning, whole}
use Rattle.mu_affine.proofs.expression_form.+walking.Given as goal

-- the sum so far, with the terms that are left, is the whole sum
abbrev pub invariant-form_of_terms-loop-term : goal.invariant-form_of_terms-loop-term
invariant-form_of_terms-loop-term l = record {
  rest : sum_form (context_of l.place l.solved) (Ok (sum_meaning l.total)) (flat_terms_of (map flat_signed (drop l.term-index l.terms))) ≡ sum_form (context_of l.place l.solved) (Ok (constant_form none)) (flat_terms_of (map flat_signed l.terms));
  reduced : IsReducedSum l.total;
  over : IsOver l.place (sum_meaning l.total);
  numbered : AreNumbered l.place (length l.solved) (flat_terms_of (map flat_signed (drop l.term-index l.terms)));
}

-- the product so far, with the factors that are left, is the whole product
abbrev pub invariant-form_of_factors-loop-factor : goal.invariant-form_of_factors-loop-factor
invariant-form_of_factors-loop-factor l = record {
  rest : product_of (context_of l.place l.solved) (Ok (form_meaning l.total)) (flat_factors_of (map flat_scaled (drop l.factor-index l.factors))) ≡ product_of (context_of l.place l.solved) (Ok (constant_form (whole (pos 1)))) (flat_factors_of (map flat_scaled l.factors));
  finished : IsFinished l.place l.total;
  numbered : AreNumberedFactors l.place (length l.solved) (flat_factors_of (map flat_scaled (drop l.factor-index l.factors)));
}
