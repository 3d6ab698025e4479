use Rattle.cert_solution.proofs.Halved.{halves}
use Rattle.cert_solution.proofs.exact_solution_laws.certificates_halve_bounds.Goals as goal

pub returns : goal.returns
returns c = halves
