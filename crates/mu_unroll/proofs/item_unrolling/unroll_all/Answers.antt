use Rattle.mu_unroll.proofs.Common.{in_order, meant_at, progress_of}
use Rattle.mu_unroll.proofs.Folding.{outer_err, outer_ok}
use Rattle.mu_unroll.proofs.item_unrolling.unroll_all.Goals as goal

pub returns-in_ok-folded-clause-ok : goal.returns-in_ok-folded-clause-ok
returns-in_ok-folded-clause-ok g c =
    let declared = meant_at c.args.env.now.declared in
    let folded = c.deref.ensures.value in
    outer_ok declared (in_order g.T.Unroll.unrolled c.in_ok-folded.folded.items declared)
    (in_order g.T.Unroll.unrolled c.args.items.now declared) c.args.env.now.loops.items
    (progress_of g.T.Unroll.made c.args.output.now) _ _ c.in_ok-folded.ensures c.requires.outside
    (rw folded at c.unroll_items.ensures.ok)

pub returns-in_ok-folded-clause-err : goal.returns-in_ok-folded-clause-err
returns-in_ok-folded-clause-err g c =
    let declared = meant_at c.args.env.now.declared in
    let folded = c.deref.ensures.value in
    outer_err declared (in_order g.T.Unroll.unrolled c.in_ok-folded.folded.items declared)
    (in_order g.T.Unroll.unrolled c.args.items.now declared) c.args.env.now.loops.items
    (progress_of g.T.Unroll.made c.args.output.now) _ c.in_ok-folded.ensures c.requires.outside
    (rw folded at c.unroll_items.ensures.err)
