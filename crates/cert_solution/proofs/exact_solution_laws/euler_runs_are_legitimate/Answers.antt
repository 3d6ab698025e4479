use Rattle.cert_solution.proofs.Euler.{euler_runs}
use Rattle.cert_solution.proofs.exact_solution_laws.euler_runs_are_legitimate.Goals as goal

pub returns : goal.returns
returns c = euler_runs
