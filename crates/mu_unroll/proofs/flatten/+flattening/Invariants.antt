use Rattle.mu_unroll.proofs.Common
use Common.{◌≡◌, denoted, drop, factors_of, flat_scaled, flat_signed, flattened_factors}
use Common.{flattened_terms, map, scaled, signed, terms_of}
use Rattle.mu_unroll.proofs.Prefixes.{prefixed}
use Rattle.mu_unroll.proofs.flatten.+flattening.Given as goal

-- what was made so far and what is left are all
abbrev pub invariant-flatten_terms-loop-term : goal.invariant-flatten_terms-loop-term
invariant-flatten_terms-loop-term l =
    prefixed (map flat_signed l.all.items) (flattened_terms l.in_clause (denoted l.env) (terms_of (map signed (drop l.term-index l.terms))))
    ≡ flattened_terms l.in_clause (denoted l.env) (terms_of (map signed l.terms))

abbrev pub invariant-flatten_factors-loop-factor : goal.invariant-flatten_factors-loop-factor
invariant-flatten_factors-loop-factor l =
    prefixed (map flat_scaled l.all.items) (flattened_factors l.in_clause (denoted l.env) (factors_of (map scaled (drop l.factor-index l.factors))))
    ≡ flattened_factors l.in_clause (denoted l.env) (factors_of (map scaled l.factors))
