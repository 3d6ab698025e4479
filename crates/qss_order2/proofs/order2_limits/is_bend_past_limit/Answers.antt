-- The sizes along a row add up as in the definitions.
use Rattle.qss_order2.proofs.Common.{◌∙◌, ap, exceeds}
use Rattle.qss_order2.proofs.FixedFacts.{row_is}
use Rattle.qss_order2.proofs.FixedSums.{bend_weight_is}
use Rattle.qss_order2.proofs.order2_limits.is_bend_past_limit.Goals as goal

pub returns : goal.returns
returns c = c.is_rise_change_steep.ensures ∙ ap (exceeds 94) (bend_weight_is c.args.f.now.machine
    c.args.row c.as_slice.result.now (row_is c.args.f.now c.args.row c.requires.row _ _
    c.as_slice.ensures c.index.ensures) c.args.changes.now c.requires.changes)
