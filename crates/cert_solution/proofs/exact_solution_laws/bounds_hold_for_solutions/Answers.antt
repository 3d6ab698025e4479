use Rattle.cert_solution.proofs.Near.{reaches_solutions}
use Rattle.cert_solution.proofs.exact_solution_laws.bounds_hold_for_solutions.Goals as goal

pub returns : goal.returns
returns c = reaches_solutions
