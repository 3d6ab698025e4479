use Rattle.mu_affine.proofs.Common.{map, named, Scales, take}
use Rattle.mu_affine.proofs.form_product.multiply_form_entries.Given as goal

abbrev pub invariant-loop-entry : goal.invariant-loop-entry
invariant-loop-entry l = Scales l.divide l.by (map named (take l.entry-index l.entries)) (map named l.all.items)
