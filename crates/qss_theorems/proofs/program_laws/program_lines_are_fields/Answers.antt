use Rattle.qss_theorems.proofs.Lines.{lines_are_fields as law}
use Rattle.qss_theorems.proofs.program_laws.program_lines_are_fields.Goals as goal

pub returns : goal.returns
returns c = law
