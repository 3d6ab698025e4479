use Rattle.qss_guarantees.proofs.Properties.{run2_prints}
use Rattle.qss_guarantees.proofs.command_laws.run2_prints_second_order_rows.Goals as goal

pub returns : goal.returns
returns c source answer h = run2_prints source answer h
