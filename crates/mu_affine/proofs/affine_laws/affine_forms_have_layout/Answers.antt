use Rattle.mu_affine.proofs.FinishedMachines.{right_side_for, named_for}
use Rattle.mu_affine.proofs.affine_laws.affine_forms_have_layout.Goals as goal

pub returns : goal.returns
returns c = record { right_sides = right_side_for; others = named_for }
