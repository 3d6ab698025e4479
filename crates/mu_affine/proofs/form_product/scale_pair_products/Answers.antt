use Rattle.mu_affine.proofs.Common.{ExactProduct, paired, refl, sym}
use Rattle.mu_affine.proofs.Scalings.{entry_unscaled, Scales-more}
use Rattle.mu_affine.proofs.form_product.scale_pair_products.Goals as goal

pub returns-in-Err : goal.returns-in-Err
returns-in-Err c =
    entry_unscaled paired c.args.divide c.args.by c.args.products.now c.loop-product.product-index c.product-item.result c.in-Err.fault c.loop-product-test.true c.product-item.is (sym c.in-Err.ensures)

pub loop-product-preserved : goal.loop-product-preserved
loop-product-preserved c =
    let new : ExactProduct = record { state = c.product-item.result.state; discrete = c.product-item.result.discrete; coef = c.in-Ok.coef } in
    rw c.in_ok-push-in-Ok.ensures.items
    (Scales-more paired c.args.divide c.args.by c.args.products.now c.loop-product.all.items c.loop-product.product-index c.product-item.result new c.loop-product-test.true c.product-item.is c.loop-product.invariant refl (sym c.in-Ok.ensures))
