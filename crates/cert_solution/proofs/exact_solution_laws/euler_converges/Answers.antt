use Rattle.cert_solution.proofs.Converge.{converges}
use Rattle.cert_solution.proofs.exact_solution_laws.euler_converges.Goals as goal

pub returns : goal.returns
returns c = converges
