use Rattle.qss_machine.proofs.Common.{◌==◌, ◌||◌, list_any, map, MarksBy, take}
use Rattle.qss_machine.proofs.variable_uses.mark_product_uses.Given as goal

-- the marks so far
abbrev pub invariant-loop-product : goal.invariant-loop-product
invariant-loop-product l = MarksBy (map (λ list. list.items) l.initial.lists.items) (map (λ list. list.items) l.lists.items) l.place (λ v. list_any (λ product. product.state == v || product.discrete == v) (take l.product-index l.products))
