-- The run from tick 0 on.
use Rattle.qss_own_traces.proofs.Common
use Common.{[], ℕ, ◌-◌, ◌∙◌, ◌≡◌, All, ap, ap₂, arith, floor_level, IsWithin, length, refl}
use Common.{run_from, Snapshot, start_snapshot, state_count, subst, sym}
use Rattle.qss_own_traces.proofs.FirstRuns.{wider}
use Rattle.qss_own_traces.proofs.Placing.{holds_one}
use Rattle.qss_own_traces.proofs.first_order_trace.FirstCourse.new.Goals as goal

pub returns : goal.returns
returns c =
    let m = c.args.m.now in
    let place = c.in_ok-place.place in
    let stands = c.in_ok-place.ensures.stands in
    let states : place.states.items ≡ (start_snapshot m).states = ap (λ (w : Snapshot). w.states) c.in_ok-place.ensures.start in
    let levels : place.levels.items ≡ (start_snapshot m).levels = ap (λ (w : Snapshot). w.levels) c.in_ok-place.ensures.start in
    let all : m.last ≡ m.last - 0 = omega arith in
    let of_states = c.in_ok-draft.ensures.states ∙ c.deref.ensures.value ∙ states in
    let of_levels = c.in_ok-draft.ensures.levels ∙ c.deref-2.ensures.value ∙ levels in
    record {
      snapshots = [];
      as_many = refl;
      rest = ap₂ (λ (k : ℕ) (w : Snapshot). run_from floor_level m k 0 w) all (sym c.in_ok-place.ensures.start);
      stands = stands;
      held = holds_one (state_count m) (start_snapshot m).states (start_snapshot m).levels c.in_ok-draft.draft (ap length (sym states) ∙ stands.states.one_each) (ap length (sym levels) ∙ stands.levels.one_each)
          (subst (All (IsWithin 108)) states (wider 88 108 place.states.items (omega arith) stands.states.small))
          (subst (All (IsWithin 64)) levels (wider 43 64 place.levels.items (omega arith) stands.levels.small))
          of_states of_levels;
    }
