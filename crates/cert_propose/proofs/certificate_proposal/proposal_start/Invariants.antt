use Rattle.cert_propose.proofs.Common.{◌≡◌, map, take}
use Rattle.cert_propose.proofs.certificate_proposal.proposal_start.Given as goal

abbrev pub invariant-loop-state : goal.invariant-loop-state
invariant-loop-state l = l.start ≡ map (λ state. state.x0) (take l.state-index l.m.states)
