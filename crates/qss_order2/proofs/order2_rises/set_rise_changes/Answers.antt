-- One more change.
use Rattle.qss_order2.proofs.Common
use Common.{◌<◌, among_at, arith, FitsSigned, get_or, int_at, IsAnswer, length, level_unit}
use Common.{to_z-of_z, w128, written_all, written_more}
use Rattle.qss_order2.proofs.FixedFacts.{asked, answered}
use Rattle.qss_order2.proofs.order2_rises.set_rise_changes.Goals as goal

pub change-requires : goal.change-requires
change-requires g c = asked c.args.f.now (int_at c.args.rises.now (get_or c.args.list.now
    c.loop-state.state-index 0)) (c.requires.size_limit _ (among_at c.args.list.now
    c.loop-state.state-index c.loop-state-test.true))

pub loop-state-preserved : goal.loop-state-preserved
loop-state-preserved g c =
    let a = c.args in
    let i = c.loop-state.state-index in
    let inv = c.loop-state.invariant in
    let h : i < length a.list.now = c.loop-state-test.true in
    let fits : FitsSigned w128 c.change.result = record { sfits = c.change.type_inv } in
    let own : IsAnswer a.rule.now.nearest (int_at a.rises.now (get_or a.list.now i 0)) (level_unit
    a.f.now.machine) c.change.result = answered a.f.now (int_at a.rises.now (get_or a.list.now i 0))
    (c.requires.size_limit _ (among_at
    a.list.now i h)) a.rule.now.nearest c.change.result c.change.ensures.answer in
    written_more _ _ _ _ _ _ _ h (omega (arith, c.requires.list i 0 h, inv.as_many)) inv
    (rw (to_z-of_z w128 c.change.result fits) own)

pub returns : goal.returns
returns g c = written_all _ _ _ _ _ _ c.loop-state-test.false c.loop-state.invariant
