use Rattle.std.proofs.Common.{◌≡◌, map, take}
use Rattle.mu_copies.proofs.copied.copy_list.Given as goal

-- the copies so far are equal to their originals
abbrev pub invariant-loop-one : goal.invariant-loop-one
invariant-loop-one g l =
    map g.T.Copied.value l.all.items ≡ map g.T.Copied.value (take l.one-index l.values)
