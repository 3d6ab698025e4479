use Rattle.cert_check.proofs.Common.{◌≡◌, is_same_below, true, vector}
use Rattle.cert_check.proofs.inequality_sides.are_side_vectors_same.Given as goal

abbrev pub invariant-loop-k : goal.invariant-loop-k
invariant-loop-k l = is_same_below l.k (vector l.first) (vector l.second) ≡ true
