use Rattle.qss_machine.proofs.Fired.{branches_fire_when_due as law}
use Rattle.qss_machine.proofs.machine_run_laws.machine_branches_fire_due.Goals as goal

pub returns : goal.returns
returns c = law
