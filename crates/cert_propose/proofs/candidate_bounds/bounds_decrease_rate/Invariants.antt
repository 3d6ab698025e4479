use Rattle.cert_propose.proofs.Common.{◌≡◌, least, quotient_at}
use Rattle.cert_propose.proofs.candidate_bounds.bounds_decrease_rate.Given as goal

abbrev pub invariant-loop-i : goal.invariant-loop-i
invariant-loop-i l = l.least ≡ least l.i (quotient_at l.t l.doubles)
