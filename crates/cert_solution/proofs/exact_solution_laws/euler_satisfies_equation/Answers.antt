use Rattle.cert_solution.proofs.Derivative.{euler_by_slopes}
use Rattle.cert_solution.proofs.exact_solution_laws.euler_satisfies_equation.Goals as goal

pub returns : goal.returns
returns c = euler_by_slopes
