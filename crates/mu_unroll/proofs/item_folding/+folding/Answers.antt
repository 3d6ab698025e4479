use Rattle.mu_unroll.proofs.Common
use Common.{◌∙◌, ap, arith, constant_of, expression, is_some, item_within, loop_size, meant_at}
use Common.{range_of, rules, sym}
use Rattle.mu_unroll.proofs.FoldedSteps.{items_pushed, loop_folded}
use Rattle.mu_unroll.proofs.item_folding.+folding.Goals as goal

pub fold_items-fold_item-requires : goal.fold_items-fold_item-requires
fold_items-fold_item-requires g t c κs within =
    let d = c.decreases in
    let s =
    item_within g.T.Nest.tree g.T.Nest.item c.args.items.now c.loop-one.one-index c.one-item.result
    c.loop-one-test.true c.one-item.is in
    (search (rules, arith, d, s), within)

pub fold_items-loop-one-preserved : goal.fold_items-loop-one-preserved
fold_items-loop-one-preserved g t c =
    items_pushed g.T.Unroll.unrolled (meant_at c.args.declared.now) c.loop-one.all.items
    c.push.new.self.items c.in_ok-copy.copy c.args.items.now c.loop-one.one-index
    c.one-item.result c.in_ok-push.ensures.items c.loop-one-test.true c.one-item.is
    c.loop-one.invariant c.in_ok-copy.ensures

pub fold_item-fold_items-requires : goal.fold_item-fold_items-requires
fold_item-fold_items-requires g t c κs within =
    let d = c.decreases in
    let s =
    loop_size g.T.Nest.tree g.T.Nest.each g.T.Nest.item g.met.T.Nest.each_item c.args.one.now _
    c.in-Each.body.now c.in-Each.ensures in
    (search (rules, arith, d, s), within)

pub fold_item-returns-in_ok-body-in-Each : goal.fold_item-returns-in_ok-body-in-Each
fold_item-returns-in_ok-body-in-Each g t c =
    let declared = meant_at c.args.declared.now in
    let r = c.in-Each.range in
    loop_folded g.T.Unroll.unrolled declared c.from_loop.result c.args.one.now
    c.in_ok-var-in-Each.var r.var.now r.at (expression c.in_ok-from-in-Each.from)
    (expression c.in_ok-to-in-Each.to) (expression r.from.now) (expression r.to.now)
    c.in_ok-body-in-Each.body.items c.in-Each.body.now
    (λ loops p. g.met.T.Unroll.unrolls_loop c.from_loop.result _ c.in_ok-body-in-Each.body.items
    c.from_loop.ensures declared loops p)
    (λ loops p. g.met.T.Unroll.unrolls_loop c.args.one.now (range_of r) c.in-Each.body.now
    c.in-Each.ensures declared loops p)
    c.in_ok-var-in-Each.ensures
    (ap (λ n. is_some (constant_of (declared n))) (sym c.bytes.ensures)
    ∙ sym c.declares_constant.ensures ∙ c.if-declares_constant.false)
    c.in_ok-from-in-Each.ensures c.in_ok-to-in-Each.ensures c.in_ok-body-in-Each.ensures
