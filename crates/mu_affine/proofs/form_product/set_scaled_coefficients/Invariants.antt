use Rattle.mu_affine.proofs.Common.{map, named, nat_cmp, SetsAll, take}
use Rattle.mu_affine.proofs.form_product.set_scaled_coefficients.Given as goal

abbrev pub invariant-loop-entry : goal.invariant-loop-entry
invariant-loop-entry l = SetsAll nat_cmp l.by l.initial.row.entries l.row.entries (map named (take l.entry-index l.entries))
