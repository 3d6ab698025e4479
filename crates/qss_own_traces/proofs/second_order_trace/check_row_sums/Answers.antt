-- The first of the rows.
use Rattle.qss_own_traces.proofs.Common
use Common.{ℕ, ◌∙◌, arith, exceeds, position_from_yields_List, range_with_len, row_weight, rules}
use Common.{state_count, sym, tests, YieldsList-from_range}
use Rattle.qss_own_traces.proofs.Flags.{position_map}
use Rattle.qss_own_traces.proofs.second_order_trace.check_row_sums.Goals as goal

pub returns : goal.returns
returns c =
    let m = c.args.m.now in
    let n = state_count m in
    let weight = row_weight m c.args.share c.args.numbers.now in
    c.check_none.ensures
    ∙ position_from_yields_List (λ (j : ℕ). exceeds 94 (weight j)) _ _ c.position.result
    c.position.ensures.ran (YieldsList-from_range 0 n n (cc) (omega arith))
    (λ x b q k. search (rules, tests))
    ∙ sym (position_map (exceeds 94) weight (range_with_len 0 n))
