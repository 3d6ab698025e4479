use Rattle.cert_solution.proofs.Slopes.{solutions_by_slopes}
use Rattle.cert_solution.proofs.exact_solution_laws.solution_satisfies_equation.Goals as goal

pub returns : goal.returns
returns c = solutions_by_slopes
