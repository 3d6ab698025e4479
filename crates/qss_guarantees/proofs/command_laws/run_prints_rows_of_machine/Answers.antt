use Rattle.qss_guarantees.proofs.Properties.{run_prints}
use Rattle.qss_guarantees.proofs.command_laws.run_prints_rows_of_machine.Goals as goal

pub returns : goal.returns
returns c options source answer h = run_prints options source answer h
