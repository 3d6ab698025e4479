-- The first one is the least.
use Rattle.qss_order2.proofs.Common.{◌∙◌, arith, exceeds, rise_weight, state_count, sym}
use Rattle.qss_order2.proofs.Tables.{first_of_table, none_of_table}
use Rattle.qss_order2.proofs.order2_limits.check_level_sums.Goals as goal

pub returns-then-is_row_past_limit : goal.returns-then-is_row_past_limit
returns-then-is_row_past_limit c =
    let m = c.args.f.now.machine in
    sym (first_of_table (exceeds 94) (state_count m) (rise_weight m c.args.levels.now)
    c.loop-row.row (omega (arith, c.loop-row-test.true, c.requires.levels)) c.loop-row.invariant
    (sym c.is_row_past_limit.ensures ∙ c.if-is_row_past_limit.true))

pub returns : goal.returns
returns c =
    let m = c.args.f.now.machine in
    sym (none_of_table (exceeds 94) (state_count m) (rise_weight m c.args.levels.now) (λ k h.
    c.loop-row.invariant k (omega (arith, h, c.loop-row-test.false, c.requires.levels))))
