-- Limits are checked in their order.
use Rattle.qss_own_traces.proofs.Common
use Common.{◌∙◌, ◌≡◌, ap, AreHeld, arith, changes_after, first_exceeding, flag_at, length}
use Common.{length-map-range_with_len, None, overflow_of, refl, rules, Some, state_count, subst}
use Common.{sym, true}
use Rattle.qss_order2.specs.SecondRunLimits.{past_levels}
use Rattle.qss_order2.proofs.Bounds.{rise_by_weight}
use Rattle.qss_machine.proofs.Near.{option_or-None}
use Rattle.qss_order2.proofs.Settlings.{of_changes, past_first, past_then, near_are, held_after}
use Rattle.qss_own_traces.proofs.FirstRuns.{wider}
use Rattle.qss_own_traces.proofs.FirstSteps.{found_some, none_small, same_items}
use Rattle.qss_own_traces.proofs.SecondSteps.{undriven}
use Rattle.qss_own_traces.proofs.second_order_trace.SecondPlace.settle.Goals as goal

pub returns-in_err-check_levels : goal.returns-in_err-check_levels
returns-in_err-check_levels c =
    let m = c.args.m.now in
    let p = c.args.self.now in
    let var = c.in_err-check_levels.field-0.0.var in
    let over : overflow_of c.from_residual.result ≡ Some var = search rules in
    let past : past_levels m p.levels.items ≡ Some var =
    ap (past_levels m) (sym c.deref.ensures.value) ∙ sym c.check_levels.ensures
    ∙ ap overflow_of c.in_err-check_levels.was in
    record {
      overflow = over ∙ sym (past_first m p.levels.items (changes_after m p) var past);
      changes = found_some _ var over;
      held = found_some _ var over;
      sized = c.requires.sized;
      kept = (refl, refl);
    }

pub update_changes-requires-clause-size_limit : goal.update_changes-requires-clause-size_limit
update_changes-requires-clause-size_limit c =
    let m = c.args.m.now in
    let p = c.args.self.now in
    let none : past_levels m p.levels.items ≡ None = ap (past_levels m) (sym c.deref.ensures.value)
    ∙ sym c.check_levels.ensures ∙ ap overflow_of c.in_ok-check_levels.was in
    wider 49 64 p.levels.items (omega arith)
    (none_small 49 p.levels.items (state_count m) c.requires.sized.levels
    (option_or-None _ _ none).0)

pub check_row_sums-requires-clause-numbers : goal.check_row_sums-requires-clause-numbers
check_row_sums-requires-clause-numbers c =
    ap length (c.deref-2.ensures.value ∙ c.update_changes.ensures.changes)
    ∙ length-map-range_with_len _ 0 (state_count c.args.m.now)

pub returns : goal.returns
returns c =
    let m = c.args.m.now in
    let p = c.args.self.now in
    let new = c.update_changes.new.self in
    let sized = c.requires.sized in
    let kept = c.update_changes.ensures.kept in
    let is = c.update_changes.ensures.changes in
    let after = changes_after m p in
    let none : past_levels m p.levels.items ≡ None = ap (past_levels m) (sym c.deref.ensures.value)
    ∙ sym c.check_levels.ensures ∙ ap overflow_of c.in_ok-check_levels.was in
    let steep : overflow_of c.check_row_sums.result ≡ of_changes m after =
    c.check_row_sums.ensures ∙ ap (first_exceeding 94) (undriven m c.deref-2.result.now)
    ∙ ap (of_changes m) (c.deref-2.ensures.value ∙ is) in
    record {
      overflow = steep ∙ sym (past_then m p.levels.items after none);
      changes = λ e. is;
      held = λ e. subst (AreHeld m) (sym is)
          (held_after true m (flag_at p.left.items) p.levels.items p.changes.items after
          (near_are true m (flag_at p.left.items) p.levels.items p.changes.items)
          (λ j h. rise_by_weight m p.levels.items (option_or-None _ _ none).1 j h) c.requires.held);
      sized = record {
        states = ap length (same_items kept.0) ∙ sized.states;
        levels = ap length (same_items kept.1) ∙ sized.levels;
        changes = ap length is ∙ length-map-range_with_len _ 0 (state_count m);
        left = rw c.update_changes.ensures.left sized.left;
      };
      kept = (kept.0, kept.1);
    }
