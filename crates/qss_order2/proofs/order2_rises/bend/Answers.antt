-- No row is past its limit.
use Rattle.qss_order2.proofs.Common
use Common.{◌∙◌, ap, overflow_of, rise_change_weight, state_count, sym, within-passes}
use Rattle.qss_order2.proofs.Bounds.{table_within}
use Rattle.qss_order2.proofs.Settled.{listed_below}
use Rattle.qss_order2.proofs.order2_rises.bend.Goals as goal

pub set_rise_bends-requires-clause-within : goal.set_rise_bends-requires-clause-within
set_rise_bends-requires-clause-within c j e =
    let m = c.args.f.now.machine in
    within-passes 94 (rise_change_weight m c.args.changes.now j) (table_within 94 (state_count m)
    (rise_change_weight m c.args.changes.now) (sym c.check_level_slopes.ensures
    ∙ ap overflow_of c.in_ok-check_level_slopes.was) j (listed_below (state_count m) c.args.list.now
    c.requires.list j e))
