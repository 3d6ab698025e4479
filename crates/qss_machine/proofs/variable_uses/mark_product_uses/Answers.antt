use Rattle.qss_machine.proofs.Common
use Common.{◌==◌, ◌||◌, List, list_any, list_any_more, map, MarksBy, pos, Product, subst, take_all}
use Rattle.qss_machine.proofs.Marking.{marks_more, items_of}
use Rattle.qss_machine.proofs.variable_uses.mark_product_uses.Goals as goal

pub loop-product-preserved : goal.loop-product-preserved
loop-product-preserved c =
    marks_more _ _ _ _ _ _ _
    (λ v. list_any_more (λ (product : Product). product.state == v || product.discrete == v) c.args.products.now c.loop-product.product-index (record { state = 0; discrete = 0; coef = pos 0 }) c.loop-product-test.true)
    c.loop-product.invariant c.in_ok-mark_product_use.ensures

pub returns : goal.returns
returns c =
    subst
    (λ (products : List Product). MarksBy (map items_of c.args.lists.now.items) (map items_of c.loop-product.lists.items) c.args.place (λ v. list_any (λ product. product.state == v || product.discrete == v) products))
    (take_all c.loop-product.product-index c.args.products.now c.loop-product-test.false) c.loop-product.invariant
