use Rattle.qss_guarantees.proofs.RunAndCertificate.{near_solution}
use Rattle.qss_guarantees.proofs.session_laws.printed_runs_are_near_solution.Goals as goal

pub returns : goal.returns
returns c = near_solution
