use Rattle.std.proofs.Common.{◌≡◌, map, take}
use Rattle.mu_tree.specs.Nests.{list_size}
use Rattle.mu_copies.proofs.copy_tree.+copy_items.Given as goal

-- the number of items, those in loops included
abbrev pub decreases-copy_items : goal.decreases-copy_items
decreases-copy_items g l = list_size g.T.Nest.tree g.T.Nest.item l.items.now

-- the copies so far are equal to their originals
abbrev pub invariant-loop-one : goal.invariant-loop-one
invariant-loop-one g l = map g.T.Nest.tree l.all.items ≡ map g.T.Nest.tree (take l.one-index l.items)
