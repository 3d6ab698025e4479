use Rattle.cert_check.proofs.Common.{◌≡◌, map, take}
use Rattle.cert_check.proofs.certificate_assembly.assemble_start_row.Given as goal

abbrev pub invariant-loop-state : goal.invariant-loop-state
invariant-loop-state l = l.row.items ≡ map (λ state. state.x0) (take l.state-index l.m.states)
