use Rattle.mu_names.proofs.Common.{◌≡◌, drop, flat_map, least_of, name_kind_at}
use Rattle.mu_tree.specs.Nests.{list_size}
use Rattle.mu_names.proofs.name_checks.+check_items.Given as goal

abbrev pub decreases-check_items : goal.decreases-check_items
decreases-check_items g l = list_size g.T.Nest.tree g.T.Nest.item l.items.now

-- what was noted and the faults of what is left are those of all
abbrev pub invariant-loop-one : goal.invariant-loop-one
invariant-loop-one g l =
    let faults = g.T.CheckNames.faults (name_kind_at l.declared) l.initial.loops.items in
    (least_of l.least (flat_map faults (drop l.one-index l.items))
    ≡ least_of l.initial.least (flat_map faults l.items))
    × (l.loops.items ≡ l.initial.loops.items)
