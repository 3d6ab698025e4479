-- One more due tick.
use Rattle.qss_order2.proofs.Common
use Common.{◌<◌, among_at, arith, get_or, length, written_all, written_more}
use Rattle.qss_order2.proofs.order2_leaving.set_leaving_dues.Goals as goal

pub leaving_due_tick-requires-clause-here : goal.leaving_due_tick-requires-clause-here
leaving_due_tick-requires-clause-here c = c.requires.here (get_or c.args.list.now
    c.loop-state.state-index
    0) (among_at c.args.list.now c.loop-state.state-index c.loop-state-test.true)

pub loop-state-preserved : goal.loop-state-preserved
loop-state-preserved c =
    let a = c.args in
    let i = c.loop-state.state-index in
    let inv = c.loop-state.invariant in
    let h : i < length a.list.now = c.loop-state-test.true in
    let inside : get_or a.list.now i 0 < length c.loop-state.dues =
    omega (arith, c.requires.list i 0 h, inv.as_many, c.requires.dues) in
    rw c.set.ensures (written_more _ _ _ _ _ _ _ h inside inv c.leaving_due_tick.ensures)

pub returns : goal.returns
returns c = written_all _ _ _ _ _ _ c.loop-state-test.false c.loop-state.invariant
