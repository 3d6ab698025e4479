-- One more bend.
use Rattle.qss_order2.proofs.Common
use Common.{◌<◌, ◌∙◌, among_at, arith, FitsSigned, get_or, length, to_z-of_z, w128, written_all}
use Common.{written_more}
use Rattle.qss_order2.proofs.order2_rises.set_rise_bends.Goals as goal

pub rise_bend_at-requires-clause-within : goal.rise_bend_at-requires-clause-within
rise_bend_at-requires-clause-within c = c.requires.within
    (get_or c.args.list.now c.loop-state.state-index 0)
    (among_at c.args.list.now c.loop-state.state-index c.loop-state-test.true)

pub loop-state-preserved : goal.loop-state-preserved
loop-state-preserved c =
    let a = c.args in
    let i = c.loop-state.state-index in
    let inv = c.loop-state.invariant in
    let h : i < length a.list.now = c.loop-state-test.true in
    let inside : get_or a.list.now i 0 < length c.loop-state.bends =
    omega (arith, c.requires.list i 0 h, inv.as_many, c.requires.bends) in
    let fits : FitsSigned w128 c.rise_bend_at.result = record { sfits = c.rise_bend_at.type_inv } in
    written_more _ _ _ _ _ _ _ h inside inv (to_z-of_z w128 c.rise_bend_at.result fits ∙
    c.rise_bend_at.ensures)

pub returns : goal.returns
returns c = written_all _ _ _ _ _ _ c.loop-state-test.false c.loop-state.invariant
