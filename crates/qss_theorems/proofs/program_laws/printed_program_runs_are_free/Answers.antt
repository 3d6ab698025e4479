use Rattle.qss_theorems.proofs.Printed.{printed_runs_are_free as law}
use Rattle.qss_theorems.proofs.program_laws.printed_program_runs_are_free.Goals as goal

pub returns : goal.returns
returns c = law
