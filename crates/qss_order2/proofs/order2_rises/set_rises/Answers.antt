-- One more rise.
use Rattle.qss_order2.proofs.Common
use Common.{◌<◌, ◌∙◌, arith, FitsSigned, get_or, length, to_z-of_z, w128, written_all, written_more}
use Rattle.qss_order2.proofs.order2_rises.set_rises.Goals as goal

pub loop-state-preserved : goal.loop-state-preserved
loop-state-preserved c =
    let a = c.args in
    let i = c.loop-state.state-index in
    let inv = c.loop-state.invariant in
    let h : i < length a.list.now = c.loop-state-test.true in
    let inside : get_or a.list.now i 0 < length c.loop-state.rises =
    omega (arith, c.requires.list i 0 h, inv.as_many, c.requires.rises) in
    let fits : FitsSigned w128 c.rise_at.result = record { sfits = c.rise_at.type_inv } in
    written_more _ _ _ _ _ _ _ h inside inv (to_z-of_z w128 c.rise_at.result fits ∙
    c.rise_at.ensures)

pub returns : goal.returns
returns c = written_all _ _ _ _ _ _ c.loop-state-test.false c.loop-state.invariant
