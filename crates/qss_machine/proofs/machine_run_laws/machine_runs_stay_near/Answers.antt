use Rattle.qss_machine.proofs.Near.{runs_stay_near as law}
use Rattle.qss_machine.proofs.machine_run_laws.machine_runs_stay_near.Goals as goal

pub returns : goal.returns
returns c = law
