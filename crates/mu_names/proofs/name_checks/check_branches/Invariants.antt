use Rattle.mu_names.proofs.Common.{◌≡◌, branch, branches_faults, drop, least_of, map, name_kind_at}
use Rattle.mu_names.proofs.name_checks.check_branches.Given as goal

-- what was noted and the faults of what is left are those of all
abbrev pub invariant-loop-one : goal.invariant-loop-one
invariant-loop-one l =
    let faults = branches_faults (name_kind_at l.declared) l.initial.loops.items in
    (least_of l.least (faults (map branch (drop l.one-index l.branches)))
    ≡ least_of l.initial.least (faults (map branch l.branches)))
    × (l.loops.items ≡ l.initial.loops.items)
