use Rattle.qss_order2.proofs.Ahead.{all_rows}
use Rattle.qss_order2.proofs.order2_laws.order2_rows_from_start.Goals as goal

pub returns : goal.returns
returns c = all_rows
