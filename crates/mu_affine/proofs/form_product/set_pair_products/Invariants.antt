use Rattle.mu_affine.proofs.Common.{map, named, take}
use Rattle.mu_affine.proofs.Settings.{SetsStates}
use Rattle.mu_affine.proofs.form_product.set_pair_products.Given as goal

abbrev pub invariant-loop-state : goal.invariant-loop-state
invariant-loop-state l = SetsStates l.initial.row.entries l.row.entries (map named (take l.state-index l.states)) (map named l.discretes)
