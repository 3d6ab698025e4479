-- The states and lines of a store from which what is due was removed, at the next tick.
use Rattle.qss_run.proofs.Common
use Common.{ℕ, ℤ, ◌+◌, ◌<◌, ◌∙◌, ◌≡◌, ◌≢◌, ◌≤◌, all_within, ap, AreLinesAt, AreSumsBefore, arith}
use Common.{detector_at, DiffersOnlyAt, due_at, false, first_exceeding, get_or_default}
use Common.{HasDueRemovedFrom, HasLeft, HasNoEventBefore, index_of, int_at, int_at-tabulate}
use Common.{is_listed, is_within_quantum, IsDue, IsScheduleOf, IsWithin, length, line_at}
use Common.{line_state_at, List, Machine, moved_states, None, Option, pos, Slope, slope_at}
use Common.{snapshot_of, Some, state_at, state_count, states_at, Store, subst, sym, tick_limit}
use Common.{true}
use Rattle.qss_events.proofs.Silence.{still_near}
use Rattle.qss_events.proofs.NextVisit.{only_due_states_pass}
use Rattle.qss_run.proofs.Jumps.{dues_later}
use Rattle.qss_run.proofs.Visits.{arrives}

module _ (m : Machine) (tick : ℕ) (agenda : List (Option ℕ)) (s : Store) (taken : HasDueRemovedFrom m tick agenda s) (in_time : tick < m.last) where
  abbrev before : Store
  before = record s { agenda = agenda }

  for : IsScheduleOf m tick (snapshot_of tick s) (line_at s.states.lines.items) (detector_at s.conditions.detectors.items) (due_at agenda)
  for = taken.stands.stands_for

  nothing : HasNoEventBefore (tick + 1) (due_at agenda)
  nothing place t e = omega (arith, dues_later m tick before taken.stands place t e)

  not_due : (j : ℕ) → j < state_count m → is_listed s.moment.moved.items j ≡ false → due_at agenda j ≢ Some (tick + 1)
  not_due j h none e = let some = taken.due.all j h e in absurd (cc)

  later_due : (j : ℕ) → j < state_count m → is_listed s.moment.moved.items j ≡ false → (u : ℕ) → due_at agenda j ≡ Some u → tick + 1 < u
  later_due j h none u e =
      let ne : u ≢ tick + 1 = λ q. not_due j h none (e ∙ ap (λ n. Some n) q) in
      omega (arith, nothing j u e, ne)

  in_limit : tick + 1 ≤ tick_limit
  in_limit = omega (arith, in_time, m.has_units.last_tick)

  -- where the lines lead
  pub leads : (j : ℕ) → j < state_count m → int_at (states_at s.states.lines.items (tick + 1)) j ≡ state_at (line_at s.states.lines.items j) (tick + 1)
  leads j h = int_at-tabulate (length s.states.lines.items) (λ i. state_at (line_at s.states.lines.items i) (tick + 1)) j (omega (arith, h, taken.stands.fits.lines))

  -- states that were not due are within the limit on arrival, and near their levels
  pub rest_small : (j : ℕ) → j < state_count m → is_listed s.moment.moved.items j ≡ false → IsWithin 88 (state_at (line_at s.states.lines.items j) (tick + 1))
  rest_small j h none =
      subst (IsWithin 88) (sym (line_state_at m tick (snapshot_of tick s) (line_at s.states.lines.items) (detector_at s.conditions.detectors.items) (due_at agenda) for j 1 h))
      (only_due_states_pass m tick (snapshot_of tick s) (line_at s.states.lines.items) (detector_at s.conditions.detectors.items) (due_at agenda) (tick + 1) 1 j for (omega arith) (omega arith) (omega (arith, in_time)) nothing h
      (not_due j h none))

  pub rest_near : (j : ℕ) → j < state_count m → is_listed s.moment.moved.items j ≡ false → is_within_quantum m j (state_at (line_at s.states.lines.items j) (tick + 1)) (int_at s.states.levels.items j) ≡ true
  rest_near j h none =
      subst (λ x. is_within_quantum m j x (int_at s.states.levels.items j) ≡ true) (sym (line_state_at m tick (snapshot_of tick s) (line_at s.states.lines.items) (detector_at s.conditions.detectors.items) (due_at agenda) for j 1 h))
      (still_near m tick (snapshot_of tick s) (line_at s.states.lines.items) (detector_at s.conditions.detectors.items) (due_at agenda) (tick + 1) 1 j for (omega arith) (omega arith) in_limit h (later_due j h none))

  -- a due state left the quantum of its level
  pub due_left : (j : ℕ) → is_listed s.moment.moved.items j ≡ true → HasLeft m j (state_at (line_at s.states.lines.items j) (tick + 1)) (int_at s.states.levels.items j)
  due_left j among =
      let found = index_of s.moment.moved.items j among in
      let inside : j < state_count m = omega (arith, found.2, taken.due.numbers.below found.0 0 found.1) in
      let first : IsDue m tick j (line_at s.states.lines.items j) (Some (tick + 1)) = subst (IsDue m tick j (line_at s.states.lines.items j)) (taken.due.own j among) (for.dues j inside) in
      subst (HasLeft m j (state_at (line_at s.states.lines.items j) (tick + 1))) ((for.lines j inside).own_level) first.holds

  -- lines come from an earlier tick, at the slopes that are kept
  pub earlier : (j : ℕ) → j < state_count m → (line_at s.states.lines.items j).tick < tick + 1
  earlier j h = omega (arith, (for.lines j h).not_later)

  pub own_slope : (j : ℕ) → j < state_count m → (line_at s.states.lines.items j).slope ≡ int_at s.states.slopes.items j
  own_slope j h =
      (for.lines j h).own_slope
      ∙ sym (ap (λ xs. int_at xs j) taken.stands.own_slopes ∙ int_at-tabulate (state_count m) (λ i. slope_at m i s.states.levels.items s.work.d) j h)

  -- where no state exceeds its limit on arrival, the lines are at the next tick
  pub lines_then : first_exceeding 88 (states_at s.states.lines.items (tick + 1)) ≡ None → AreLinesAt m (tick + 1) s.states.lines.items
  lines_then none = record {
    up_to = record {
      as_many = taken.stands.fits.lines;
      later = λ j h. omega (arith, earlier j (omega (arith, h, taken.stands.fits.lines)));
      in_time = omega (arith, in_time, m.has_units.last_tick);
    };
    small = all_within 88 (states_at s.states.lines.items (tick + 1)) none;
  }

  pub at_arrival : states_at s.states.lines.items (tick + 1) ≡ moved_states m (snapshot_of tick s)
  at_arrival = arrives m tick before taken.stands

  -- the slopes and the lines are those at the levels before the moved states took theirs
  pub levels_before : (moved : List ℕ) (levels : List ℤ) → DiffersOnlyAt moved s.states.levels.items levels → AreSumsBefore Slope m moved levels s.work.d s.states.slopes.items s.states.lines.items s.states.levels.items
  levels_before moved levels off = record {
    levels = record {
      off = off;
      of_lines = record {
        small = λ k d h.
            let inside : k < state_count m = omega (arith, h, taken.stands.fits.levels) in
            subst (IsWithin 43) (get_or_default s.states.levels.items k (pos 0) d h) (for.left.small_levels k inside);
        light = for.left.light;
        own_levels = λ j h. (for.lines j h).own_level;
      };
    };
    own_sums = taken.stands.own_slopes;
  }
