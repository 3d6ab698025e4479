use Rattle.mu_names.proofs.Common
use Common.{◌≡◌, drop, factors_faults, factors_of, least_of, map, name_kind_at, name_kind_in}
use Common.{scaled, signed, terms_faults, terms_of}
use Rattle.mu_names.proofs.name_checks.+naming.Given as goal

-- what was noted and the faults of what is left are those of all
abbrev pub invariant-check_terms-loop-term : goal.invariant-check_terms-loop-term
invariant-check_terms-loop-term l =
    least_of l.least (terms_faults l.reading (name_kind_in l.loops (name_kind_at l.declared)) (terms_of (map signed (drop l.term-index l.terms))))
    ≡ least_of l.initial.least (terms_faults l.reading (name_kind_in l.loops (name_kind_at l.declared)) (terms_of (map signed l.terms)))

abbrev pub invariant-check_factors-loop-factor : goal.invariant-check_factors-loop-factor
invariant-check_factors-loop-factor l =
    least_of l.least (factors_faults l.reading (name_kind_in l.loops (name_kind_at l.declared)) (factors_of (map scaled (drop l.factor-index l.factors))))
    ≡ least_of l.initial.least (factors_faults l.reading (name_kind_in l.loops (name_kind_at l.declared)) (factors_of (map scaled l.factors)))
