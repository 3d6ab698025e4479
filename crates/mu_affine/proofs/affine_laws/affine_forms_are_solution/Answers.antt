use Rattle.mu_affine.proofs.Solutions.{solved_solve}
use Rattle.mu_affine.proofs.affine_laws.affine_forms_are_solution.Goals as goal

pub returns : goal.returns
returns c = solved_solve
