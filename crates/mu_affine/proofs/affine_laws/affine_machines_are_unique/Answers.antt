use Rattle.mu_affine.proofs.OneMachine.{machine_exists, one_machine}
use Rattle.mu_affine.proofs.affine_laws.affine_machines_are_unique.Goals as goal

pub returns : goal.returns
returns c = record { exists = machine_exists; faultless = λ forms m s machine h. h.no_fault; only = one_machine }
