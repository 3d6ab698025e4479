use Rattle.mu_unroll.proofs.Common
use Common.{factors_of, IsSameFactors, IsSameTerms, map, meant_at, scaled, signed, take, terms_of}
use Rattle.mu_unroll.proofs.constant_folding.+folding_expressions.Given as goal

-- the copies so far have the same flat parts as their originals
abbrev pub invariant-fold_terms-loop-term : goal.invariant-fold_terms-loop-term
invariant-fold_terms-loop-term l =
    IsSameTerms (meant_at l.declared) (terms_of (map signed l.all.items))
    (terms_of (map signed (take l.term-index l.terms)))

abbrev pub invariant-fold_factors-loop-factor : goal.invariant-fold_factors-loop-factor
invariant-fold_factors-loop-factor l =
    IsSameFactors (meant_at l.declared) (factors_of (map scaled l.all.items))
    (factors_of (map scaled (take l.factor-index l.factors)))
