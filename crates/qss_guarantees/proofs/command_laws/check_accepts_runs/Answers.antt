use Rattle.qss_guarantees.proofs.Properties.{check_accepts}
use Rattle.qss_guarantees.proofs.command_laws.check_accepts_runs.Goals as goal

pub returns : goal.returns
returns c source text answer h = check_accepts source text answer h
