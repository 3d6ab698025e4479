use Rattle.qss_guarantees.proofs.Properties.{gen_prints}
use Rattle.qss_guarantees.proofs.command_laws.gen_prints_summary.Goals as goal

pub returns : goal.returns
returns c seed cells answer h = gen_prints seed cells answer h
