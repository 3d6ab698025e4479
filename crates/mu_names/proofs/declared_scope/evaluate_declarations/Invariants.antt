use Rattle.mu_names.proofs.Common
use Common.{◌++◌, ◌≡◌, all_valued, constants_after, declaration, declarations_faults, drop}
use Common.{entry_at, least_of, map, name_kind_at}
use Rattle.mu_names.proofs.declared_scope.evaluate_declarations.Given as goal

-- what there is so far and what is left are all
abbrev pub invariant-loop-d : goal.invariant-loop-d
invariant-loop-d l = record {
  values : l.all.items ++ all_valued (name_kind_at l.declared) (entry_at l.constants) (map declaration (drop l.d-index l.decls))
      ≡ all_valued (name_kind_at l.declared) (entry_at l.initial.constants) (map declaration l.decls);
  constants : constants_after (name_kind_at l.declared) (entry_at l.constants) (map declaration (drop l.d-index l.decls))
      ≡ constants_after (name_kind_at l.declared) (entry_at l.initial.constants) (map declaration l.decls);
  faults : least_of l.least (declarations_faults (name_kind_at l.declared) (entry_at l.constants) (map declaration (drop l.d-index l.decls)))
      ≡ least_of l.initial.least (declarations_faults (name_kind_at l.declared) (entry_at l.initial.constants) (map declaration l.decls));
}
