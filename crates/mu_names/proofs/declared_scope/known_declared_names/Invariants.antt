use Rattle.mu_names.proofs.Common.{◌++◌, ◌≡◌, all_known, declaration, derived_in, drop, map, model}
use Rattle.mu_names.proofs.declared_scope.known_declared_names.Given as goal

-- what is known so far and what is left are all
abbrev pub invariant-loop-place : goal.invariant-loop-place
invariant-loop-place l =
    l.known.items ++ all_known l.quantum (derived_in (model l.m)) (map declaration (drop l.place l.m.decls.items)) (drop l.place l.values)
    ≡ all_known l.quantum (derived_in (model l.m)) (map declaration l.m.decls.items) l.values
