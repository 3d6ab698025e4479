use Rattle.mu_causal.proofs.Common.{◌≡◌, flat_variable, is_known, map, take}
use Rattle.mu_causal.proofs.dependency_graph.known_dependencies.Given as goal

abbrev pub invariant-loop-variable : goal.invariant-loop-variable
invariant-loop-variable l = l.known.items ≡ map (λ v. is_known v.role) (map flat_variable (take l.variable-index l.vars))
