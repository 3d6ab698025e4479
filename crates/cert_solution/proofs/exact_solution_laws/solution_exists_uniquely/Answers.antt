use Rattle.cert_solution.proofs.Exact.{solutions_are_one}
use Rattle.cert_solution.proofs.exact_solution_laws.solution_exists_uniquely.Goals as goal

pub returns : goal.returns
returns c = solutions_are_one
