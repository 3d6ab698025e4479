-- One tick of the run.
use Rattle.qss_own_traces.proofs.Common
use Common.{[], ℕ, ℤ, ◌++◌, ◌∙◌, ◌∷◌, ◌≡◌, ap, arith, first_wide, length-append, List}
use Common.{nearest_change, None, Option, overflow_of, second_snapshot_unless, second_start}
use Common.{SecondSnapshot, snapshot_of, state_count, sym}
use Rattle.qss_own_traces.proofs.SecondRuns.{left_more, left_over, left_wide, narrow_more}
use Rattle.qss_own_traces.proofs.Placing.{holds_more}
use Rattle.qss_own_traces.proofs.Wides.{narrow_levels, narrow_states}
use Rattle.qss_own_traces.proofs.second_order_trace.SecondCourse.advance_tick.Goals as goal

pub returns-in-Err-clause-refused : goal.returns-in-Err-clause-refused
returns-in-Err-clause-refused c =
    let m = c.args.m.now in
    let at = c.requires.at in
    left_over m c.args.tick (snapshot_of c.args.self.now.place) at.snapshots c.in-Err.over.var
    c.requires.tick_limit at.narrow at.rest
    (c.advance_tick.ensures.step
    ∙ ap (λ (o : Option ℕ). second_snapshot_unless o (snapshot_of c.advance_tick.new.self))
    (ap overflow_of c.in-Err.is))

pub returns-in-Err-check_range-clause-refused : goal.returns-in-Err-check_range-clause-refused
returns-in-Err-check_range-clause-refused c =
    let m = c.args.m.now in
    let at = c.requires.at in
    let next = snapshot_of c.advance_tick.new.self in
    left_wide m c.args.tick (snapshot_of c.args.self.now.place) at.snapshots next
    c.in-Err-check_range.over.var c.requires.tick_limit at.as_many at.narrow at.rest
    (c.advance_tick.ensures.step
    ∙ ap (λ (o : Option ℕ). second_snapshot_unless o next) (ap overflow_of c.in_default.is))
    (sym c.check_range.ensures ∙ ap overflow_of c.in-Err-check_range.is)

pub returns-clause-next : goal.returns-clause-next
returns-clause-next c =
    let m = c.args.m.now in
    let at = c.requires.at in
    let place = c.advance_tick.new.self in
    let next = snapshot_of place in
    let sized = c.advance_tick.ensures.sized in
    let narrow : first_wide next ≡ None = sym c.check_range.ensures
    ∙ ap overflow_of c.in_default-check_range.is in
    let small_states = narrow_states next (state_count m) sized.states narrow in
    let small_levels = narrow_levels next (state_count m) sized.states sized.levels narrow in
    record {
      snapshots = at.snapshots ++ next ∷ [];
      as_many = omega (arith, at.as_many, length-append at.snapshots (next ∷ []));
      rest = left_more m c.args.tick (snapshot_of c.args.self.now.place) at.snapshots next c.requires.tick_limit at.rest
          (c.advance_tick.ensures.step
          ∙ ap (λ (o : Option ℕ). second_snapshot_unless o next) (ap overflow_of c.in_default.is));
      narrow = narrow_more (second_start nearest_change m ∷ at.snapshots) next at.narrow narrow;
      stands = record {
        sized = sized;
        held = c.advance_tick.ensures.held (ap overflow_of c.in_default.is);
        small_states = small_states;
        small_levels = small_levels;
      };
      held = holds_more (λ (v : SecondSnapshot). v.states) (λ (v : SecondSnapshot). v.levels)
          (state_count m) (second_start nearest_change m ∷ at.snapshots) next c.args.self.now.draft
          c.add.new.self at.held sized.states sized.levels small_states small_levels
          (c.in_ok-add.ensures.states
          ∙ ap (λ (xs : List ℤ). c.args.self.now.draft.states.items ++ xs) c.deref.ensures.value)
          (c.in_ok-add.ensures.levels
          ∙ ap (λ (xs : List ℤ). c.args.self.now.draft.levels.items ++ xs) c.deref-2.ensures.value);
    }
