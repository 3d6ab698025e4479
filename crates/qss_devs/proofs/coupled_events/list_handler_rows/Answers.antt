-- One more row.
use Rattle.qss_devs.proofs.Common.{◌∙◌, ap, arith, length, take_all}
use Rattle.qss_hand.specs.Values.{Values}
use Rattle.qss_devs.proofs.coupled_events.list_handler_rows.Goals as goal

pub push_reserved-requires : goal.push_reserved-requires
push_reserved-requires c =
    omega (arith, c.loop-row.invariant.as_many, c.loop-row.invariant.room, c.loop-row-test.true, ap length c.as_slice-row-items.ensures.value, ap (λ (v : Values). length v.log) c.work.view_is, c.requires)

pub returns-clause-rows : goal.returns-clause-rows
returns-clause-rows c =
    c.loop-row.invariant.rows
    ∙ take_all c.loop-row.row-index c.as_slice-row-items.result.now c.loop-row-test.false
    ∙ c.as_slice-row-items.ensures.value
    ∙ ap (λ (v : Values). v.log) c.work.view_is
