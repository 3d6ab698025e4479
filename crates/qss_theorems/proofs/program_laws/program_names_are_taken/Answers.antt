use Rattle.qss_theorems.proofs.Expressions.{names_are_taken as law}
use Rattle.qss_theorems.proofs.program_laws.program_names_are_taken.Goals as goal

pub returns : goal.returns
returns c = law
