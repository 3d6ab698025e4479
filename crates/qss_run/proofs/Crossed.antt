-- A tick at which few states are due and few conditions change.
use Rattle.qss_run.proofs.Common
use Common.{ℕ, ℤ, ◌+◌, ◌-◌, ◌<◌, ◌∙◌, ◌≡◌, ◌≢◌, ◌≤◌, All, ap, AreMovedTo, AreNextLevels, arith}
use Common.{became_true, Bool, cases_Bool, cases_lt, compares, condition_at, conditions}
use Common.{detector_at, due_at, false, first_exceeding, flag_at, from_later, get_or_past}
use Common.{HandlerState, handling_from, HasDueRemovedFrom, HasNoEventBefore, holds_at, index_of}
use Common.{inl, inr, int_at, is_listed, is_reinitialized, is_within_quantum, IsAllowedLevel}
use Common.{IsChange, IsDetectorAt, IsDue, IsHandlerEffect, IsLineWithinQuantum, IsScheduleOf}
use Common.{IsSmall, IsWithin, IsWithout, length, level_unit, line_at, List, Machine, moved_is}
use Common.{None, not, Option, or_parts, or_right, quantum_of, refl, Rule, snapshot_of, Some}
use Common.{speed_of, state_at, state_count, states_at, states_with, Store, subst, sym, tick_limit}
use Common.{true, truth, value_at, value_of, Values}
use Rattle.qss_events.proofs.Silence.{flag_still, watch_value_at}
use Rattle.qss_events.proofs.NextLevels.{next_is_near}
use Rattle.mu_num.proofs.Tests.{if-true}
use Rattle.qss_run.proofs.AfterHandlers.{length-states_with, int_at-states_with, other_state}
use Rattle.qss_run.proofs.Handled.{over_early}
use Rattle.qss_run.proofs.Jumps.{dues_later}
use Rattle.qss_run.proofs.SmallValues.{value_small, condition_bounded}
use Rattle.qss_run.proofs.DueRemoved.{rest_near, at_arrival}
use Rattle.qss_run.proofs.Takes.{not_among}
use Rattle.qss_run.proofs.Visits.{due_stays}

-- where handlers overflow nowhere, no state exceeded its limit on arrival
pub none_early : (m : Machine) (tick : ℕ) (x d : List ℤ) (at_arrival after_handlers : List Bool) → (handling_from m tick x d at_arrival after_handlers).overflow ≡ None → first_exceeding 88 x ≡ None
none_early m tick x d at_arrival after_handlers calm = by (first_exceeding 88 x) refl
  where
    by : (o : Option ℕ) → first_exceeding 88 x ≡ o → first_exceeding 88 x ≡ None
    by None e = e
    by (Some var) e = let over : Some var ≡ None = over_early m tick x d at_arrival after_handlers (Some var) refl (sym e) ∙ calm in absurd (cc)

module _ (m : Machine) (tick : ℕ) (agenda : List (Option ℕ)) (s : Store) (taken : HasDueRemovedFrom m tick agenda s) (in_time : tick < m.last) where
  abbrev before : Store
  before = record s { agenda = agenda }

  for : IsScheduleOf m tick (snapshot_of tick s) (line_at s.states.lines.items) (detector_at s.conditions.detectors.items) (due_at agenda)
  for = taken.stands.stands_for

  nothing : HasNoEventBefore (tick + 1) (due_at agenda)
  nothing place t e = omega (arith, dues_later m tick before taken.stands place t e)

  in_limit : tick + 1 ≤ tick_limit
  in_limit = omega (arith, in_time, m.has_units.last_tick)

  later_than : (place u : ℕ) → due_at agenda place ≡ Some u → u ≢ tick + 1 → tick + 1 < u
  later_than place u e ne = omega (arith, nothing place u e, ne)

  -- ---- the event queue

  later_state : (j : ℕ) → j < state_count m → is_listed s.moment.moved.items j ≡ false → (u : ℕ) → due_at agenda j ≡ Some u → tick + 1 < u
  later_state j h none u e = later_than j u e (λ q. let some = taken.due.all j h (e ∙ ap (λ n. Some n) q) in absurd (cc))

  later_change : (place : ℕ) → place < length (conditions m) → is_listed s.moment.changed.items place ≡ false → (u : ℕ) → due_at agenda (state_count m + place) ≡ Some u → tick + 1 < u
  later_change place h none u e =
      later_than (state_count m + place) u e (λ q. let some = taken.changing.changing place h (e ∙ ap (λ n. Some n) q) in absurd (cc))

  -- what is left in the event queue is later than the next tick
  pub later_dues : (place due : ℕ) → due_at s.agenda place ≡ Some due → tick + 1 < due
  later_dues place due e = elim (cases_lt place (state_count m)) [ inl below ↦ of_state below | inr past ↦ of_rest past ]
    where
      of_state : place < state_count m → tick + 1 < due
      of_state h =
          elim (cases_Bool (is_listed s.moment.moved.items place)) [
            | inl among ↦ let nowhere = taken.without.states place among in absurd (cc)
            | inr none ↦ later_state place h none due (sym (taken.without.other_states place h none) ∙ e)
          ]

      of_condition : (k : ℕ) → k < length (conditions m) → due_at s.agenda (state_count m + k) ≡ Some due → tick + 1 < due
      of_condition k h there =
          elim (cases_Bool (is_listed s.moment.changed.items k)) [
            | inl among ↦ let nowhere = taken.without.conditions k among in absurd (cc)
            | inr none ↦ later_change k h none due (sym (taken.without.other_conditions k h none) ∙ there)
          ]

      of_rest : state_count m ≤ place → tick + 1 < due
      of_rest past =
          let same : state_count m + (place - state_count m) ≡ place = omega (arith, past) in
          let there : due_at s.agenda (state_count m + (place - state_count m)) ≡ Some due = ap (due_at s.agenda) same ∙ e in
          elim (cases_lt (place - state_count m) (length (conditions m))) [
            | inl inside ↦ of_condition (place - state_count m) inside there
            | inr out ↦ elim (cases_lt (length (conditions m)) (place - state_count m)) [
              | inl more ↦ (let nowhere : due_at s.agenda place ≡ None = get_or_past s.agenda place None (omega (arith, more, taken.without.as_many, taken.stands.fits.places)) in absurd (cc))
              | inr last ↦
                  let at : place - state_count m ≡ length (conditions m) = omega (arith, out, last) in
                  let nowhere : due_at s.agenda (state_count m + (place - state_count m)) ≡ None = ap (λ k. due_at s.agenda (state_count m + k)) at ∙ taken.without.behind in
                  absurd (cc)
            ]
          ]

  -- ---- conditions on arrival

  held_then : (place : ℕ) → place < length (conditions m) →
      value_at (detector_at s.conditions.detectors.items place) (tick + 1) ≡ value_of m (condition_at m place).form (states_at s.states.lines.items (tick + 1)) s.work.d s.work.d (tick + 1)
  held_then place h =
      watch_value_at m tick (snapshot_of tick s) (line_at s.states.lines.items) (detector_at s.conditions.detectors.items) (due_at agenda) for place 1 h
      ∙ ap (λ x. value_of m (condition_at m place).form x s.work.d s.work.d (tick + 1)) (sym (at_arrival m tick agenda s taken in_time ∙ moved_is m (snapshot_of tick s)))

  -- one that does not change is as after the last handlers
  pub flag_same : (place : ℕ) → place < length (conditions m) → is_listed s.moment.changed.items place ≡ false →
      truth m (condition_at m place) (states_at s.states.lines.items (tick + 1)) s.work.d (tick + 1) ≡ flag_at s.conditions.after_handlers.items place
  flag_same place h none =
      ap (λ x. truth m (condition_at m place) x s.work.d (tick + 1)) (at_arrival m tick agenda s taken in_time ∙ moved_is m (snapshot_of tick s))
      ∙ flag_still m tick (snapshot_of tick s) (line_at s.states.lines.items) (detector_at s.conditions.detectors.items) (due_at agenda) (tick + 1) 1 place for (omega arith) (omega arith) in_limit h (later_change place h none)

  -- and one that is not looked at did not become true through them
  pub rest_as_before : (place : ℕ) → place < length (conditions m) → is_listed s.moment.changed.items place ≡ false →
      (truth m (condition_at m place) (states_at s.states.lines.items (tick + 1)) s.work.d (tick + 1) ≡ flag_at s.conditions.after_handlers.items place) × (became_true s.conditions.at_arrival.items s.conditions.after_handlers.items place ≡ false)
  rest_as_before place h none = (
    flag_same place h none,
    elim (cases_Bool (became_true s.conditions.at_arrival.items s.conditions.after_handlers.items place)) [
      | inl risen ↦ (let some = taken.changing.risen place h risen in absurd (cc))
      | inr not ↦ not
    ],
  )

  -- each detector has its condition's truth on arrival, and a small value where no state exceeded
  -- its limit
  pub watched_then : (place : ℕ) → place < length (conditions m) →
      ((detector_at s.conditions.detectors.items place).tick ≤ tick + 1)
      × (All (IsWithin 88) (states_at s.states.lines.items (tick + 1)) → IsSmall (value_at (detector_at s.conditions.detectors.items place) (tick + 1)))
      × (holds_at (detector_at s.conditions.detectors.items place) (tick + 1) ≡ truth m (condition_at m place) (states_at s.states.lines.items (tick + 1)) s.work.d (tick + 1))
  watched_then place h = (
    omega (arith, (for.detectors place h).not_later),
    λ small. subst IsSmall (sym (held_then place h))
        (value_small m (condition_at m place).form (states_at s.states.lines.items (tick + 1)) s.work.d (tick + 1)
        (condition_bounded m s.conditions.branches.items taken.stands.fits.own_conditions.branches place (omega (arith, h, taken.stands.fits.own_conditions.branches.as_many))) small taken.stands.fits.values.small_discretes
        (omega (arith, in_time, m.has_units.last_tick))),
    ap (λ r. compares r (value_at (detector_at s.conditions.detectors.items place) (tick + 1))) (for.detectors place h).own_rel ∙ ap (compares (condition_at m place).rel) (held_then place h),
  )

  -- the detector of one that does not change is valid as before, at the states on arrival
  pub watched_still : (place : ℕ) → place < length (conditions m) → is_listed s.moment.changed.items place ≡ false →
      IsDetectorAt m (tick + 1) (states_at s.states.lines.items (tick + 1)) s.work.d s.states.slopes.items place (detector_at s.conditions.detectors.items place) (due_at s.agenda (state_count m + place))
  watched_still place h none =
      let v = for.detectors place h in
      let change : IsChange (tick + 1) (flag_at s.conditions.after_handlers.items place) (detector_at s.conditions.detectors.items place) (due_at agenda (state_count m + place)) =
      from_later (λ t. holds_at (detector_at s.conditions.detectors.items place) t ≢ flag_at s.conditions.after_handlers.items place) tick (tick + 1) (due_at agenda (state_count m + place)) (omega arith)
      (later_change place h none) (for.changes place h) in
      record {
        not_later = omega (arith, v.not_later);
        here = held_then place h;
        own_speed = subst (λ xs. (detector_at s.conditions.detectors.items place).speed ≡ speed_of m (condition_at m place).form xs) (sym taken.stands.own_slopes) v.own_speed;
        own_rel = v.own_rel;
        is_change = subst (λ b. IsChange (tick + 1) b (detector_at s.conditions.detectors.items place) (due_at s.agenda (state_count m + place))) (sym (flag_same place h none))
            (subst (IsChange (tick + 1) (flag_at s.conditions.after_handlers.items place) (detector_at s.conditions.detectors.items place)) (sym (taken.without.other_conditions place h none)) change);
      }

  -- ---- after the handlers

  module _ (moved assigned : List ℕ) (new : Values) (h : HandlerState) (is : IsHandlerEffect m (tick + 1) s.states.lines.items s.moment.moved.items moved assigned s.work new h) where
    -- a state that did not move was not due
    rest : (j : ℕ) → is_listed moved j ≡ false → is_listed s.moment.moved.items j ≡ false
    rest j none =
        (or_parts (is_listed s.moment.moved.items j) (is_reinitialized h.rows j) (sym (is.moves j) ∙ none)).0

    -- only states are reinitialized
    pub reinits_known : (j : ℕ) → is_reinitialized h.rows j ≡ true → j < state_count m
    reinits_known j e =
        let found = index_of moved j (is.moves j ∙ or_right (is_listed s.moment.moved.items j) (is_reinitialized h.rows j) e) in
        omega (arith, is.numbers.below found.0 0 found.1, found.2)

    line_known : (j : ℕ) → j < state_count m → j < length s.states.lines.items
    line_known j inside = omega (arith, inside, taken.stands.fits.lines)

    pub moved_to : AreMovedTo m moved new.x s.states.levels.items h.states
    moved_to = record {
      as_many = ap length is.own_states ∙ length-states_with s.states.lines.items (tick + 1) moved new.x ∙ taken.stands.fits.lines;
      own = λ j among.
          let found = index_of moved j among in
          let inside : j < state_count m = omega (arith, is.numbers.below found.0 0 found.1, found.2) in
          ap (λ xs. int_at xs j) is.own_states ∙ int_at-states_with s.states.lines.items (tick + 1) moved new.x j (line_known j inside)
          ∙ if-true (is_listed moved j) (int_at new.x j) (state_at (line_at s.states.lines.items j) (tick + 1)) among;
      near = λ j inside none.
          subst (λ x. is_within_quantum m j x (int_at s.states.levels.items j) ≡ true)
          (sym (ap (λ xs. int_at xs j) is.own_states ∙ other_state s.states.lines.items (tick + 1) moved new.x j (line_known j inside) none))
          (rest_near m tick agenda s taken in_time j inside (rest j none));
    }

    module _ (name : Option Rule) (levels : List ℤ) (allowed : AreNextLevels (IsAllowedLevel name) m h.states s.states.levels.items levels) where
      pub near_after : (j : ℕ) → j < state_count m → IsLineWithinQuantum (level_unit m) (int_at (states_with s.states.lines.items (tick + 1) moved new.x) j) (int_at levels j) (quantum_of m j (int_at levels j))
      near_after j inside =
          subst (λ xs. IsLineWithinQuantum (level_unit m) (int_at xs j) (int_at levels j) (quantum_of m j (int_at levels j))) is.own_states
          (next_is_near name m j (int_at h.states j) (int_at s.states.levels.items j) (int_at levels j) inside (allowed.each j inside))

      -- a line of another state that is at its level keeps its due tick
      pub due_after : (after : List (Option ℕ)) → IsWithout moved s.agenda after → (j : ℕ) → j < state_count m → is_listed moved j ≡ false →
          (line_at s.states.lines.items j).level ≡ int_at levels j → IsDue m (tick + 1) j (line_at s.states.lines.items j) (due_at after j)
      due_after after without j inside none own =
          subst (IsDue m (tick + 1) j (line_at s.states.lines.items j)) (sym (without.others j none ∙ taken.without.other_states j inside (rest j none)))
          (due_stays m tick before taken.stands j (state_at (line_at s.states.lines.items j) (tick + 1)) (int_at levels j) inside
          (subst (λ x. IsLineWithinQuantum (level_unit m) x (int_at levels j) (quantum_of m j (int_at levels j))) (other_state s.states.lines.items (tick + 1) moved new.x j (line_known j inside) none)
          (near_after j inside))
          refl own)

    -- the places of conditions stay in the event queue
    pub conditions_stay : (after : List (Option ℕ)) → IsWithout moved s.agenda after → (place : ℕ) → due_at after (state_count m + place) ≡ due_at s.agenda (state_count m + place)
    conditions_stay after without place = without.others (state_count m + place) (not_among (state_count m) moved (state_count m + place) is.numbers (omega arith))
