use Rattle.cert_propose.proofs.Common.{◌≡◌, map, take}
use Rattle.cert_propose.proofs.certificate_proposal.proposal_quanta.Given as goal

abbrev pub invariant-loop-state : goal.invariant-loop-state
invariant-loop-state l = l.quantum ≡ map (λ state. state.quantum) (take l.state-index l.m.states)
