use Rattle.cert_check.proofs.Common.{◌≡◌, map, take}
use Rattle.cert_check.proofs.machine_system.affine_quanta.Given as goal

abbrev pub invariant-loop-state : goal.invariant-loop-state
invariant-loop-state l = l.quantum ≡ map (λ state. state.quantum) (take l.state-index l.m.states)
