use Rattle.qss_machine.proofs.OneRun.{runs_are_unique as law}
use Rattle.qss_machine.proofs.machine_run_laws.machine_runs_are_unique.Goals as goal

pub returns : goal.returns
returns c = law
