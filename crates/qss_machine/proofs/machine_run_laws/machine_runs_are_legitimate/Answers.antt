use Rattle.qss_machine.proofs.Admitted.{runs_are_legitimate as law}
use Rattle.qss_machine.proofs.machine_run_laws.machine_runs_are_legitimate.Goals as goal

pub returns : goal.returns
returns c = law
