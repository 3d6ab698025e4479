use Rattle.mu_unroll.proofs.Common.{branch, IsSameBranches, map, meant_at, take}
use Rattle.mu_unroll.proofs.loop_folding.fold_branches.Given as goal

-- the copies so far have the same result as their originals
abbrev pub invariant-loop-one : goal.invariant-loop-one
invariant-loop-one l =
    IsSameBranches (meant_at l.declared) (map branch l.all.items)
    (map branch (take l.one-index l.branches))
