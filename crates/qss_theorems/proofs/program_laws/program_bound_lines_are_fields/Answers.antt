use Rattle.qss_theorems.proofs.BoundLines.{bound_lines_are_fields as law}
use Rattle.qss_theorems.proofs.program_laws.program_bound_lines_are_fields.Goals as goal

pub returns : goal.returns
returns c = law
