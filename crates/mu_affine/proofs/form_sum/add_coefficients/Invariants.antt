use Rattle.mu_affine.proofs.Common.{JoinsAll, map, named, nat_cmp, take}
use Rattle.mu_affine.proofs.form_sum.add_coefficients.Given as goal

abbrev pub invariant-loop-entry : goal.invariant-loop-entry
invariant-loop-entry l = JoinsAll nat_cmp l.minus l.initial.row.entries l.row.entries (map named (take l.entry-index l.entries))
