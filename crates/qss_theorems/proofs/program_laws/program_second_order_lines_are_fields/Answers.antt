use Rattle.qss_theorems.proofs.SecondOrderLines.{second_order_lines_are_fields as law}
use Rattle.qss_theorems.proofs.program_laws.program_second_order_lines_are_fields.Goals as goal

pub returns : goal.returns
returns c = law
