use Rattle.mu_unroll.proofs.Common
use Common.{◌*◌, ◌+◌, drop, in_order, item_size, list_size, progress_of, rounds_from}
use Rattle.mu_unroll.proofs.Walks.{IsBetweenItems, IsBetweenRounds, rounds_left, step_in}
use Rattle.mu_unroll.proofs.item_unrolling.+unrolling.Given as goal

abbrev pub decreases-unroll_items : goal.decreases-unroll_items
decreases-unroll_items g l = 2 * list_size g.T.Nest.tree g.T.Nest.item l.items.now + 1

abbrev pub decreases-unroll_item : goal.decreases-unroll_item
decreases-unroll_item g l = 2 * item_size (g.T.Nest.item (g.T.Nest.tree l.one.now))

abbrev pub invariant-unroll_items-loop-one : goal.invariant-unroll_items-loop-one
invariant-unroll_items-loop-one g l =
    IsBetweenItems (in_order g.T.Unroll.unrolled (drop l.one-index l.items)) l.initial.env
    (step_in (in_order g.T.Unroll.unrolled l.items) l.initial.env
    (progress_of g.T.Unroll.made l.initial.output)) l.env (progress_of g.T.Unroll.made l.output)

abbrev pub invariant-unroll_item-loop-range : goal.invariant-unroll_item-loop-range
invariant-unroll_item-loop-range g l =
    let body = in_order g.T.Unroll.unrolled l.body in
    IsBetweenRounds body l.range.var.now l.initial.env
    (rounds_left body l.range.var.now l.initial.env l.initial.rounds
    (progress_of g.T.Unroll.made l.initial.output)) l.env l.rounds
    (progress_of g.T.Unroll.made l.output)

abbrev pub decreases-unroll_item-loop-range : goal.decreases-unroll_item-loop-range
decreases-unroll_item-loop-range g l = rounds_from l.rounds.next l.rounds.last
