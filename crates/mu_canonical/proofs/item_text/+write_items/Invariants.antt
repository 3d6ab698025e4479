use Rattle.std.proofs.Common.{◌≡◌, ◌++◌, drop}
use Rattle.mu_tree.specs.Canonical.{joined}
use Rattle.mu_tree.specs.Nests.{list_size}
use Rattle.mu_canonical.proofs.item_text.+write_items.Given as goal

-- the number of items, those in loops included
abbrev pub decreases-write_items : goal.decreases-write_items
decreases-write_items g l = list_size g.T.Nest.tree g.T.Nest.item l.items.now

-- what is left to write completes the text
abbrev pub invariant-loop-one : goal.invariant-loop-one
invariant-loop-one g l =
    l.out.items ++ joined (g.T.WrittenItem.list_texts (drop l.one-index l.items))
    ≡ l.initial.out.items ++ joined (g.T.WrittenItem.list_texts l.items)
