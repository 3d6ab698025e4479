use Rattle.mu_unroll.proofs.Common
use Common.{◌*◌, ◌+◌, in_order, IsSameStep, item_size, list_size, meant_at, take}
use Rattle.mu_unroll.proofs.item_folding.+folding.Given as goal

abbrev pub decreases-fold_items : goal.decreases-fold_items
decreases-fold_items g l = 2 * list_size g.T.Nest.tree g.T.Nest.item l.items.now + 1

abbrev pub decreases-fold_item : goal.decreases-fold_item
decreases-fold_item g l = 2 * item_size (g.T.Nest.item (g.T.Nest.tree l.one.now))

-- the copies so far have the same result as their originals
abbrev pub invariant-fold_items-loop-one : goal.invariant-fold_items-loop-one
invariant-fold_items-loop-one g l =
    let declared = meant_at l.declared in
    IsSameStep declared (in_order g.T.Unroll.unrolled l.all.items declared)
    (in_order g.T.Unroll.unrolled (take l.one-index l.items) declared)
