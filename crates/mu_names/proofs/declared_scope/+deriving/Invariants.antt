use Rattle.mu_names.proofs.Common
use Common.{ℕ, ◌||◌, ◌≡◌, drop, equation, equations_of, is_among, is_entry, List, map}
use Rattle.mu_names.specs.DeclaredRoles.{derived_all}
use Rattle.mu_names.proofs.declared_scope.+deriving.Given as goal

-- the names so far and those of what is left are all
abbrev pub invariant-add_all_derived_names-loop-one : goal.invariant-add_all_derived_names-loop-one
invariant-add_all_derived_names-loop-one l = (q : List ℕ) →
    (is_entry l.names q || is_among (derived_all (equations_of (map equation (drop l.one-index l.equations)))) q)
    ≡ (is_entry l.initial.names q || is_among (derived_all (equations_of (map equation l.equations))) q)
