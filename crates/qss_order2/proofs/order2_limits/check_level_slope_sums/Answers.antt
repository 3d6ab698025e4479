-- The first one is the least.
use Rattle.qss_order2.proofs.Common.{◌∙◌, arith, exceeds, rise_change_weight, state_count, sym}
use Rattle.qss_order2.proofs.Tables.{first_of_table, none_of_table}
use Rattle.qss_order2.proofs.order2_limits.check_level_slope_sums.Goals as goal

pub returns-then-is_bend_past_limit : goal.returns-then-is_bend_past_limit
returns-then-is_bend_past_limit c =
    let m = c.args.f.now.machine in
    sym (first_of_table (exceeds 94) (state_count m) (rise_change_weight m c.args.changes.now)
    c.loop-row.row (omega (arith, c.loop-row-test.true, c.requires)) c.loop-row.invariant
    (sym c.is_bend_past_limit.ensures ∙ c.if-is_bend_past_limit.true))

pub returns : goal.returns
returns c =
    let m = c.args.f.now.machine in
    sym (none_of_table (exceeds 94) (state_count m) (rise_change_weight m c.args.changes.now)
    (λ k h. c.loop-row.invariant k (omega (arith, h, c.loop-row-test.false, c.requires))))
