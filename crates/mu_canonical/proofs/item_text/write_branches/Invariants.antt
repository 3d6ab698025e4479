use Rattle.std.proofs.Common.{◌≡◌, ◌++◌, true, map, drop}
use Rattle.mu_tree.specs.ModelTree.{branch}
use Rattle.mu_tree.specs.Canonical.{joined, written_branches}
use Rattle.mu_canonical.proofs.item_text.write_branches.Given as goal

-- what is left to write completes the text
abbrev pub invariant-loop-one : goal.invariant-loop-one
invariant-loop-one l = l.out.items ++ joined (written_branches (map branch (drop l.one-index l.branches)) l.first) ≡ l.initial.out.items ++ joined (written_branches (map branch l.branches) true)
