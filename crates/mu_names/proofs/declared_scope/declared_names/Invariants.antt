use Rattle.mu_names.proofs.Common
use Common.{[], ◌≡◌, declaration, derived_in, drop, entry_at, first_declared, least_of, map, model}
use Common.{repeated_faults, take}
use Rattle.mu_names.proofs.declared_scope.declared_names.Given as goal

-- the table has the declarations so far; what was noted and the faults of what is left are those of all
abbrev pub invariant-loop-d : goal.invariant-loop-d
invariant-loop-d l = record {
  table : entry_at l.table ≡ first_declared (derived_in (model l.m)) (map declaration (take l.d-index l.m.decls.items));
  faults : least_of l.least (repeated_faults (derived_in (model l.m)) (map declaration (take l.d-index l.m.decls.items)) (map declaration (drop l.d-index l.m.decls.items)))
      ≡ least_of l.initial.least (repeated_faults (derived_in (model l.m)) [] (map declaration l.m.decls.items));
}
