use Rattle.mu_affine.proofs.Common.{pair_cmp, paired}
use Rattle.mu_affine.proofs.RowForms.{JoinsAll-none, entry_joined, entry_failed, pair_order}
use Rattle.mu_affine.proofs.form_sum.add_pair_coefficients.Goals as goal

pub loop-product-init : goal.loop-product-init
loop-product-init c = JoinsAll-none pair_cmp c.args.minus c.args.row.now.entries c.requires.reduced

pub returns-in-Err : goal.returns-in-Err
returns-in-Err c =
    let answered = c.in_ok-add_to_pair_coefficient.ensures in
    let failed = rw c.in-Err.is at answered in
    entry_failed pair_cmp paired c.args.minus c.args.row.now.entries c.loop-product.row.entries c.args.products.now c.loop-product.product-index c.product-item.result c.in-Err.fault pair_order c.requires.rising c.requires.reduced c.loop-product-test.true c.product-item.is c.loop-product.invariant failed

pub loop-product-preserved : goal.loop-product-preserved
loop-product-preserved c =
    let answered = c.in_ok-add_to_pair_coefficient.ensures in
    let added = rw c.in-Ok.is at answered in
    entry_joined pair_cmp paired c.args.minus c.args.row.now.entries c.loop-product.row.entries c.add_to_pair_coefficient.new.row.entries c.args.products.now c.loop-product.product-index c.product-item.result added.0 pair_order c.requires.rising c.requires.reduced c.loop-product-test.true c.product-item.is c.loop-product.invariant added.1 added.2
