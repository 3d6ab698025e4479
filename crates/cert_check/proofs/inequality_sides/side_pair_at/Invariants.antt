use Rattle.cert_check.proofs.Common.{◌-◌, ◌<◌, ◌≡◌, pair_from, pair_of, pairs}
use Rattle.cert_check.proofs.inequality_sides.side_pair_at.Given as goal

abbrev pub invariant-loop-i : goal.invariant-loop-i
invariant-loop-i l = record {
  same : pair_from l.i (l.n - l.i) l.rest ≡ pair_of l.n l.k;
  left : l.rest < pairs (l.n - l.i);
}
