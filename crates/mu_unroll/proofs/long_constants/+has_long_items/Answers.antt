use Rattle.mu_unroll.proofs.Common.{arith, rules}
use Rattle.mu_tree.proofs.Nesting.{body_smaller}
use Rattle.mu_unroll.proofs.long_constants.+has_long_items.Goals as goal

pub has_long_items-requires : goal.has_long_items-requires
has_long_items-requires g t c κs within =
    let d = c.decreases in
    let s =
    body_smaller g.T.Nest.tree g.T.Nest.each g.T.Nest.item g.met.T.Nest.each_item c.args.items.now
    c.in-Each.body.now c.loop-one.one-index c.one-item.result _ c.loop-one-test.true c.one-item.is
    c.in-Each.ensures in
    (search (rules, arith, d, s), within)
