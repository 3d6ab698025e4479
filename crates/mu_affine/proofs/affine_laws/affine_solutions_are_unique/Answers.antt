use Rattle.mu_affine.proofs.Solutions.{solutions_same}
use Rattle.mu_affine.proofs.affine_laws.affine_solutions_are_unique.Goals as goal

pub returns : goal.returns
returns c = solutions_same
