-- The first of the rows.
use Rattle.qss_own_traces.proofs.Common
use Common.{[], ℕ, ◌∙◌, ap, arith, exceeds_row_limits, fill_by_all, pos, position}
use Common.{position_from_yields_List, range_with_len, refl, row_at, rules, start_discretes}
use Common.{state_count, sym, tests, YieldsList-from_range}
use Rattle.qss_machine.specs.declared.machine_parts.SlopeRow.{SlopeRow}
use Rattle.qss_own_traces.proofs.Flags.{position_map}
use Rattle.qss_own_traces.proofs.first_order_trace.check_row_sums.Goals as goal

pub returns : goal.returns
returns c =
    let m = c.args.m.now in
    let n = state_count m in
    let none : SlopeRow = record { entries = []; products = []; beta = pos 0 } in
    let test = exceeds_row_limits m c.args.levels.now (start_discretes m) in
    c.check_none.ensures
    ∙ position_from_yields_List (λ (j : ℕ). test (row_at m j)) _ _ c.position.result
    c.position.ensures.ran (YieldsList-from_range 0 n n (cc) (omega arith))
    (λ x b q k. search (rules, tests))
    ∙ sym (position_map test (row_at m) (range_with_len 0 n))
    ∙ sym (ap (position test) (fill_by_all (row_at m) m.rows n none m.has_rows.one_each
    (λ k h. refl)))
