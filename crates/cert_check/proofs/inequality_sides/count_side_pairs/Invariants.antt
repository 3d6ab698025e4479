use Rattle.cert_check.proofs.Common.{◌≡◌, pairs}
use Rattle.cert_check.proofs.inequality_sides.count_side_pairs.Given as goal

abbrev pub invariant-loop-i : goal.invariant-loop-i
invariant-loop-i l = l.count ≡ pairs l.i
