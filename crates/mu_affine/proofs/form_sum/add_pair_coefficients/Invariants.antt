use Rattle.mu_affine.proofs.Common.{JoinsAll, map, pair_cmp, paired, take}
use Rattle.mu_affine.proofs.form_sum.add_pair_coefficients.Given as goal

abbrev pub invariant-loop-product : goal.invariant-loop-product
invariant-loop-product l = JoinsAll pair_cmp l.minus l.initial.row.entries l.row.entries (map paired (take l.product-index l.products))
