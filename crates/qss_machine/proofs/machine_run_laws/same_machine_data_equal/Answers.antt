use Rattle.qss_machine.proofs.Fields.{same_machine}
use Rattle.qss_machine.proofs.machine_run_laws.same_machine_data_equal.Goals as goal

pub returns : goal.returns
returns c = same_machine
