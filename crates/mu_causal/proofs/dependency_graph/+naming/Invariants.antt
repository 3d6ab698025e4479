use Rattle.mu_causal.proofs.Common
use Common.{◌++◌, ◌≡◌, drop, flat_factors_of, flat_scaled, flat_signed, flat_terms_of, map}
use Common.{names_of_factors, names_of_terms}
use Rattle.mu_causal.proofs.dependency_graph.+naming.Given as goal

-- the names so far and those of what is left are all
abbrev pub invariant-push_term_dependencies-loop-term : goal.invariant-push_term_dependencies-loop-term
invariant-push_term_dependencies-loop-term l =
    l.names.items ++ names_of_terms (flat_terms_of (map flat_signed (drop l.term-index l.terms))) ≡ l.initial.names.items ++ names_of_terms (flat_terms_of (map flat_signed l.terms))

abbrev pub invariant-push_factor_dependencies-loop-factor : goal.invariant-push_factor_dependencies-loop-factor
invariant-push_factor_dependencies-loop-factor l =
    l.names.items ++ names_of_factors (flat_factors_of (map flat_scaled (drop l.factor-index l.factors))) ≡ l.initial.names.items ++ names_of_factors (flat_factors_of (map flat_scaled l.factors))
