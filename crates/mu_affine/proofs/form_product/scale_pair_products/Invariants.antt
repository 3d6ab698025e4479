use Rattle.mu_affine.proofs.Common.{map, paired, Scales, take}
use Rattle.mu_affine.proofs.form_product.scale_pair_products.Given as goal

abbrev pub invariant-loop-product : goal.invariant-loop-product
invariant-loop-product l = Scales l.divide l.by (map paired (take l.product-index l.products)) (map paired l.all.items)
