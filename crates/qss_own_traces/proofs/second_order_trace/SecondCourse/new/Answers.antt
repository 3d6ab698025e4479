-- The run from tick 0 on.
use Rattle.qss_own_traces.proofs.Common
use Common.{[], ℤ, ◌∙◌, ◌≡◌, All, ap, ap₂, AreHeld, first_exceeding_limit, IsWithin, length, List}
use Common.{nearest_change, None, overflow_of, refl, second_start, snapshot_of, state_count, subst}
use Common.{sym}
use Rattle.qss_own_traces.proofs.FirstSteps.{same_items}
use Rattle.qss_own_traces.proofs.Placing.{holds_one}
use Rattle.qss_own_traces.proofs.SecondSteps.{with_changes}
use Rattle.qss_own_traces.proofs.SecondRuns.{all_changed, narrow_one, start_left, start_over}
use Rattle.qss_own_traces.proofs.SecondRuns.{zeros_held}
use Rattle.qss_own_traces.proofs.Wides.{narrow_levels, narrow_states, start_narrow}
use Rattle.qss_own_traces.proofs.second_order_trace.SecondCourse.new.Goals as goal

pub settle-requires-clause-held : goal.settle-requires-clause-held
settle-requires-clause-held c = subst (AreHeld c.args.m.now) (sym c.in_ok-place.ensures.changes) (zeros_held c.args.m.now)

pub returns-in-Err-clause-refused : goal.returns-in-Err-clause-refused
returns-in-Err-clause-refused c =
    let m = c.args.m.now in
    let p = c.in_ok-place.place in
    let changes = all_changed m p c.in_ok-place.ensures.left c.in_ok-place.ensures.levels in
    start_over m c.in-Err.over.var (start_narrow m)
    (sym (ap₂ (first_exceeding_limit m) c.in_ok-place.ensures.levels changes)
    ∙ sym c.settle.ensures.overflow ∙ ap overflow_of c.in-Err.is)

pub returns-clause-start : goal.returns-clause-start
returns-clause-start c =
    let m = c.args.m.now in
    let p = c.in_ok-place.place in
    let q = c.settle.new.self in
    let start = second_start nearest_change m in
    let sized = c.settle.ensures.sized in
    let changes = all_changed m p c.in_ok-place.ensures.left c.in_ok-place.ensures.levels in
    let none : first_exceeding_limit m start.levels start.changes ≡ None =
    sym (ap₂ (first_exceeding_limit m) c.in_ok-place.ensures.levels changes)
    ∙ sym c.settle.ensures.overflow ∙ ap overflow_of c.in_default.is in
    let states : q.states.items ≡ start.states =
    same_items c.settle.ensures.kept.0 ∙ c.in_ok-place.ensures.states in
    let levels : q.levels.items ≡ start.levels =
    same_items c.settle.ensures.kept.1 ∙ c.in_ok-place.ensures.levels in
    let taken : q.changes.items ≡ start.changes =
    c.settle.ensures.changes (ap overflow_of c.in_default.is) ∙ changes in
    let of_states : length start.states ≡ state_count m = ap length (sym states) ∙ sized.states in
    let of_levels : length start.levels ≡ state_count m = ap length (sym levels) ∙ sized.levels in
    let small_states = narrow_states start (state_count m) of_states (start_narrow m) in
    let small_levels = narrow_levels start (state_count m) of_states of_levels (start_narrow m) in
    let here : snapshot_of q ≡ start =
    ap₂ (λ (xs ms : List ℤ). with_changes xs ms q.changes.items) states levels ∙ ap (with_changes start.states start.levels) taken in
    record {
      snapshots = [];
      as_many = refl;
      rest = start_left m (snapshot_of q) none here;
      narrow = narrow_one start (start_narrow m);
      stands = record {
        sized = sized;
        held = c.settle.ensures.held (ap overflow_of c.in_default.is);
        small_states = subst (All (IsWithin 108)) (sym states) small_states;
        small_levels = subst (All (IsWithin 64)) (sym levels) small_levels;
      };
      held = holds_one (state_count m) start.states start.levels c.in_ok-draft.draft of_states of_levels small_states small_levels
          (c.in_ok-draft.ensures.states ∙ c.deref.ensures.value ∙ states)
          (c.in_ok-draft.ensures.levels ∙ c.deref-2.ensures.value ∙ levels);
    }
