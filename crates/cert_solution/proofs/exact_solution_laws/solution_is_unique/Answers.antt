use Rattle.cert_solution.proofs.Unique.{solutions_are_unique}
use Rattle.cert_solution.proofs.exact_solution_laws.solution_is_unique.Goals as goal

pub returns : goal.returns
returns c = solutions_are_unique
