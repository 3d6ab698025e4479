-- A motion at the next event.
use Rattle.qss_order2.proofs.Common
use Common.{ℕ, ℤ, ◌*ℤ◌, ◌+ℤ◌, ◌+◌, ◌-◌, ◌<◌, ◌∙◌, ◌≡◌, ◌≤◌, ap, AreMovableUntil, AreQuiet, arith}
use Common.{bend_at, CanRead, cases_Bool, false, floor_of, HasLists, HasNewLevels, if-false}
use Common.{if-true, if◌then◌else◌, inl, inr, int_at, int_at-tabulate, is_listed, IsRuleApplied}
use Common.{IsSized, IsSmallPlace, IsWithin, length-map-range_with_len, level_on, level_unit}
use Common.{levels_after, levels_on, List, Machine, Motion, motion_at, Moves, None, not, Option}
use Common.{Place, place_in, pos, refl, rise_at, second_snapshot_after, SecondSnapshot, snapshot_of}
use Common.{state_count, state_on, subst, sym, tabulate, true}
use Rattle.qss_order2.specs.Stores.{HasRises}
use Rattle.qss_order2.proofs.Motions.{here_level, here_state, here_line, line_later, states_later}
use Rattle.qss_order2.proofs.Motions.{levels_later, rises_later, bend_v, levels_are, states_are}
use Rattle.qss_order2.proofs.Motions.{rises_are, many_states, many_levels, many_rises}
use Rattle.qss_order2.proofs.QuietStates.{not_own}
use Rattle.qss_order2.proofs.Quiet.{rise_stays, same_bend}
use Rattle.qss_order2.proofs.Tables.{same_list, by_false}

-- a motion at a tick, and the one after some ticks at which some states leave
pub record IsArrival (m : Machine) (tick ticks : ℕ) (left affected : List ℕ) (q0 q1 : Motion) : Type
    0
  where
    pub moves : Moves m (motion_at m q0 tick)
    pub past : (j : ℕ) → j < state_count m → (place_in q0.places.items j).since ≤ tick
    pub arrived : HasNewLevels m (tick + ticks) left affected q0 q1

-- and the one in which the rule was applied there
pub record IsEvent (Rule : ℤ → ℤ → ℤ → Type 0) (m : Machine) (tick ticks : ℕ) (left affected :
    List ℕ) (q0 q1 q2 : Motion) (over : Option ℕ) : Type 0 where
  pub arrival : IsArrival m tick ticks left affected q0 q1
  pub quiet : AreQuiet m (is_listed left) (is_listed affected)
  pub lists : HasLists m q2
  pub applied : IsRuleApplied Rule m left affected (levels_on (state_count m) q1.places.items
      q1.changes.items (tick + ticks)) q1 q2 over

module _ {m : Machine} {tick ticks : ℕ} {left affected : List ℕ} {q0 q1 : Motion} (arrival :
    IsArrival m tick ticks left affected q0 q1) where
  abbrev moves : Moves m (motion_at m q0 tick)
  moves = arrival.moves

  abbrev past : (j : ℕ) → j < state_count m → (place_in q0.places.items j).since ≤ tick
  past = arrival.past

  abbrev arrived : HasNewLevels m (tick + ticks) left affected q0 q1
  arrived = arrival.arrived

  abbrev n : ℕ
  n = state_count m

  abbrev next : ℕ
  next = tick + ticks

  abbrev w : SecondSnapshot
  w = snapshot_of (motion_at m q0 tick)

  abbrev there : SecondSnapshot
  there = second_snapshot_after m w ticks

  abbrev left_level : ℕ → ℤ
  left_level j = if is_listed left j then floor_of (int_at there.states j) (level_unit m)
      else int_at there.levels j

  -- the affected states are at the tick
  pub since_touched : (j : ℕ) → is_listed affected j ≡ true →
      (place_in q1.places.items j).since ≡ next
  since_touched j e = elim (cases_Bool (is_listed left j)) [
    | inl leaves ↦ ap (λ (p : Place). p.since) (arrived.leaving j leaves)
    | inr stays ↦ ap (λ (p : Place). p.since) (arrived.moved j e stays)
  ]

  -- and have moved along their parabolas
  state_touched : (j : ℕ) → j < n → is_listed affected j ≡ true →
      (place_in q1.places.items j).state ≡ int_at there.states j
  state_touched j h e =
      let own = states_later m q0 tick moves ticks j h (past j h) in
      elim (cases_Bool (is_listed left j)) [
        | inl leaves ↦ ap (λ (p : Place). p.state) (arrived.leaving j leaves) ∙ own
        | inr stays ↦ ap (λ (p : Place). p.state) (arrived.moved j e stays) ∙ own
      ]

  -- levels of states that stay are on their lines
  pub level1 : (j : ℕ) → is_listed left j ≡ false → level_on (place_in q1.places.items j)
      (int_at q1.changes.items j) next ≡ level_on (place_in q0.places.items j)
      (int_at q0.changes.items j) next
  level1 j stays = elim (cases_Bool (is_listed affected j)) [
    | inl e ↦ here_level (place_in q1.places.items j) (int_at q1.changes.items j) next
        (since_touched j e) ∙ ap (λ (p : Place). p.level) (arrived.moved j e stays)
    | inr not ↦ rw (arrived.others j not, arrived.changes) refl
  ]

  -- levels are on their lines, or new
  pub level_there : (j : ℕ) → j < n → level_on (place_in q1.places.items j)
      (int_at q1.changes.items j) next ≡ left_level j
  level_there j h =
      let own = levels_later m q0 tick moves ticks j h (past j h) in
      let place = place_in q1.places.items j in
      let change = int_at q1.changes.items j in
      elim (cases_Bool (is_listed left j)) [
        | inl leaves ↦
            here_level place change next (since_touched j (arrived.own j leaves))
            ∙ ap (λ (p : Place). p.level) (arrived.leaving j leaves)
            ∙ ap (λ z. floor_of z (level_unit m)) (states_later m q0 tick moves ticks j h
            (past j h))
            ∙ sym (if-true (is_listed left j) _ _ leaves)
        | inr stays ↦ level1 j stays ∙ own ∙ sym (if-false (is_listed left j) _ _ stays)
      ]

  pub levels_there : levels_on n q1.places.items q1.changes.items next ≡ levels_after m w
      (is_listed left) ticks
  levels_there = levels_are n q1.places.items q1.changes.items next left_level level_there

  -- levels may be taken at the tick
  pub reads1 : (window : ℕ) → AreMovableUntil n tick window q0.places.items q0.changes.items
      q0.rises.items q0.bends.items → next ≤ window → HasLists m q1 →
      CanRead n next q1.places.items q1.changes.items
  reads1 window way within lists = record {
    as_many_changes = lists.changes;
    past = λ j h. elim (cases_Bool (is_listed affected j)) [
      | inl e ↦ omega (arith, since_touched j e)
      | inr not ↦ omega (arith, way.past j h, since_kept j not)
    ];
    near = λ j h. elim (cases_Bool (is_listed affected j)) [
      | inl e ↦ omega (arith, since_touched j e)
      | inr not ↦ omega (arith, way.near j h, since_kept j not, within)
    ];
    small = λ j h before. elim (cases_Bool (is_listed affected j)) [
      | inl e ↦ absurd (omega (arith, since_touched j e, before))
      | inr not ↦ subst (λ (p : Place). IsWithin 49 p.level) (sym (arrived.others j not))
          (way.small j h).level
    ];
    small_changes = λ j h before. subst (λ (vs : List ℤ). IsWithin 95 (int_at vs j))
        (sym arrived.changes) (way.small_changes j h);
  }
    where
      since_kept : (j : ℕ) → is_listed affected j ≡ false → (place_in q1.places.items j).since ≡
          (place_in q0.places.items j).since
      since_kept j not = ap (λ (p : Place). p.since) (arrived.others j not)

  pub near1 : (window : ℕ) → window ≤ tick + 65536 →
      ((j : ℕ) → j < n → window ≤ (place_in q0.places.items j).since + 65536) → (j : ℕ) → j < n →
      window ≤ (place_in q1.places.items j).since + 65536
  near1 window few near j h = elim (cases_Bool (is_listed affected j)) [
    | inl e ↦ omega (arith, since_touched j e, few)
    | inr not ↦ omega (arith, near j h, ap (λ (p : Place). p.since) (arrived.others j not))
  ]

module _ {Rule : ℤ → ℤ → ℤ → Type 0} {m : Machine} {tick ticks : ℕ} {left affected : List ℕ}
    {q0 q1 q2 : Motion} {over : Option ℕ} (event : IsEvent Rule m tick ticks left affected q0 q1 q2
    over) (e : over ≡ None) where
  abbrev before : IsArrival m tick ticks left affected q0 q1
  before = event.arrival

  abbrev place : ℕ → Place
  place j = place_in q2.places.items j

  same_place : (j : ℕ) → place j ≡ place_in q1.places.items j
  same_place j = ap (λ ps. place_in ps.items j) event.applied.places

  pub since2 : (j : ℕ) → is_listed affected j ≡ true → (place j).since ≡ (tick + ticks)
  since2 j t = ap (λ (p : Place). p.since) (same_place j) ∙ since_touched before j t

  pub kept_change : (j : ℕ) → j < state_count m → is_listed left j ≡ false →
      int_at q2.changes.items j ≡ int_at q0.changes.items j
  kept_change j h stays =
      ap (λ (xs : List ℤ). int_at xs j) (event.applied.taken e) ∙ by_false (is_listed left j) _ _
      stays
      (event.applied.are_changes.each j h) ∙ ap (λ (xs : List ℤ). int_at xs j)
      before.arrived.changes

  same_rise : (j : ℕ) → int_at q2.rises.items j ≡ int_at q1.rises.items j
  same_rise j = ap (λ rs. int_at rs.items j) event.applied.rises

  kept_rise : (j : ℕ) → j < state_count m → is_listed affected j ≡ false →
      int_at q2.rises.items j ≡ int_at q0.rises.items j
  kept_rise j h not = same_rise j ∙ before.arrived.rises j h not

  bend2 : (j : ℕ) → j < state_count m → int_at q2.bends.items j ≡ bend_at m j q2.changes.items
  bend2 j h = event.applied.bends e j h ∙ ap (bend_at m j) (sym (event.applied.taken e))

  kept_bend : (j : ℕ) → j < state_count m → is_listed affected j ≡ false →
      int_at q2.bends.items j ≡ int_at q0.bends.items j
  kept_bend j h not = bend2 j h ∙ sym (same_bend m (is_listed left) j (event.quiet j h not)
      q0.changes.items q2.changes.items (λ i k stays. sym (kept_change i k stays)))
      ∙ sym (bend_v m q0 tick before.moves j h)

  kept_place : (j : ℕ) → is_listed affected j ≡ false → place j ≡ place_in q0.places.items j
  kept_place j not = same_place j ∙ before.arrived.others j not

  not_left : (j : ℕ) → is_listed affected j ≡ false → is_listed left j ≡ false
  not_left = not_own left (is_listed affected) before.arrived.own

  state2 : (j : ℕ) → j < state_count m → state_on (place j) (int_at q2.rises.items j)
      (int_at q2.bends.items j) (tick + ticks) ≡ int_at (there before).states j
  state2 j h = elim (cases_Bool (is_listed affected j)) [
    | inl t ↦
        here_state (place j) (int_at q2.rises.items j) (int_at q2.bends.items j) (tick + ticks)
        (since2 j t)
        ∙ ap (λ (p : Place). p.state) (same_place j) ∙ state_touched before j h t
    | inr not ↦ rw (kept_place j not, kept_rise j h not, kept_bend j h not) (states_later m q0 tick
        before.moves ticks j h (before.past j h))
  ]

  pub states2 : (motion_at m q2 (tick + ticks)).states ≡ (there before).states
  states2 = states_are (state_count m) q2.places.items q2.rises.items q2.bends.items (tick + ticks)
      _
      (λ j h. state2 j h ∙ int_at-tabulate (state_count m) _ j h)

  level2 : (j : ℕ) → j < state_count m → level_on (place j) (int_at q2.changes.items j) (tick +
      ticks) ≡ (left_level before) j
  level2 j h = elim (cases_Bool (is_listed affected j)) [
    | inl t ↦
        here_level (place j) (int_at q2.changes.items j) (tick + ticks) (since2 j t)
        ∙ ap (λ (p : Place). p.level) (same_place j)
        ∙ sym (here_level (place_in q1.places.items j) (int_at q1.changes.items j) (tick + ticks)
        (since_touched before j t))
        ∙ level_there before j h
    | inr not ↦ rw (
      same_place j,
      kept_change j h (not_left j not) ∙ sym (ap (λ (xs : List ℤ).
          int_at xs j) before.arrived.changes),
    ) (level_there before j h)
  ]

  pub levels2 : (motion_at m q2 (tick + ticks)).levels ≡ levels_after m (w before) (is_listed left)
      ticks
  levels2 = levels_are (state_count m) q2.places.items q2.changes.items (tick + ticks) (left_level
      before) level2

  to_levels : (j : ℕ) → rise_at m j (levels_on (state_count m) q1.places.items q1.changes.items
      (tick + ticks)) ≡ rise_at m j (motion_at m q2 (tick + ticks)).levels
  to_levels j = ap (rise_at m j) (levels_there before ∙ sym levels2)

  rise2 : (j : ℕ) → j < state_count m → int_at q2.rises.items j +ℤ pos ((tick + ticks) - (place
      j).since)
      *ℤ int_at q2.bends.items j ≡ rise_at m j (motion_at m q2 (tick + ticks)).levels
  rise2 j h = elim (cases_Bool (is_listed affected j)) [
    | inl t ↦ here_line (int_at q2.rises.items j) (int_at q2.bends.items j) (place j).since (tick +
        ticks)
        (since2 j t) ∙ event.applied.risen e j h t ∙ to_levels j
    | inr not ↦ rw (kept_place j not, kept_rise j h not, kept_bend j h not) (rises_later m q0 tick
        before.moves ticks j h (before.past j h)
        ∙ sym (rise_stays m (is_listed left) j (event.quiet j h not) (w before) ticks)
        ∙ ap (rise_at m j) (sym levels2))
  ]

  pub has_rises2 : HasRises m (motion_at m q2 (tick + ticks))
  has_rises2 = record {
    rises = rises_are (state_count m) q2.places.items q2.rises.items q2.bends.items (tick + ticks)
        (λ j. rise_at m j (motion_at m q2 (tick + ticks)).levels) rise2;
    bends = same_list q2.bends.items (tabulate (state_count m) (λ j. bend_at m j q2.changes.items))
        (state_count m) event.lists.bends (length-map-range_with_len (λ j. bend_at m j
        q2.changes.items) 0 (state_count m))
        (λ j h. bend2 j h ∙ sym (int_at-tabulate (state_count m) (λ j. bend_at m j q2.changes.items)
        j h));
    held = λ j h. subst (λ (xs : List ℤ). IsWithin 95 (level_unit m *ℤ int_at xs j))
        (sym (event.applied.taken e)) (event.applied.held e j h);
  }

  pub sized2 : IsSized m (motion_at m q2 (tick + ticks))
  sized2 = record {
    states = many_states (state_count m) q2.places.items q2.rises.items q2.bends.items (tick +
        ticks);
    levels = many_levels (state_count m) q2.places.items q2.changes.items (tick + ticks);
    changes = event.lists.changes;
    rises = many_rises (state_count m) q2.places.items q2.rises.items q2.bends.items (tick + ticks);
    bends = event.lists.bends;
  }

  -- what is said of the places before and after of the states that are not affected
  pub past2 : (j : ℕ) → j < state_count m → (place j).since ≤ (tick + ticks)
  past2 j h = elim (cases_Bool (is_listed affected j)) [
    | inl t ↦ omega (arith, since2 j t)
    | inr not ↦ omega (arith, before.past j h, ap (λ (p : Place). p.since) (kept_place j not))
  ]

  pub near2 : (window : ℕ) → (tick + ticks) ≤ window → window ≤ tick + 65536 →
      ((j : ℕ) → j < state_count m → window ≤ (place_in q0.places.items j).since + 65536) → (j : ℕ)
      → j < state_count m →
      window ≤ (place j).since + 65536
  near2 window within few near j h = elim (cases_Bool (is_listed affected j)) [
    | inl t ↦ omega (arith, since2 j t, few)
    | inr not ↦ omega (arith, near j h, ap (λ (p : Place). p.since) (kept_place j not))
  ]

  pub small2 : ((j : ℕ) → j < state_count m → is_listed affected j ≡ true →
      IsSmallPlace (place j) × IsWithin 94 (int_at q2.rises.items j)) →
      ((j : ℕ) → j < state_count m → IsSmallPlace (place_in q0.places.items j)) →
      ((j : ℕ) → j < state_count m → IsWithin 94 (int_at q0.rises.items j)) →
      (j : ℕ) → j < state_count m → IsSmallPlace (place j) × IsWithin 94 (int_at q2.rises.items j)
  small2 here places rises j h = elim (cases_Bool (is_listed affected j)) [
    | inl t ↦ here j h t
    | inr not ↦ (
      subst IsSmallPlace (sym (kept_place j not)) (places j h),
      subst (IsWithin 94) (sym (kept_rise j h not)) (rises j h),
    )
  ]

  -- the line of a level that is not of a state that left goes on
  pub line2 : (j t : ℕ) → j < state_count m → is_listed left j ≡ false → (tick + ticks) ≤ t →
      level_on (place j) (int_at q2.changes.items j) t ≡ level_on (place_in q0.places.items j)
      (int_at q0.changes.items j) t
  line2 j t h stays later =
      ap (λ z. level_on (place j) z t) (kept_change j h stays)
      ∙ elim (cases_Bool (is_listed affected j)) [
        | inl e ↦
            ap (λ (p : Place). level_on p (int_at q0.changes.items j) t) (same_place j
            ∙ before.arrived.moved j e stays)
            ∙ going_on (place_in q0.places.items j) (int_at q0.changes.items j) (before.past j h)
        | inr not ↦ ap (λ (p : Place). level_on p (int_at q0.changes.items j) t)
            (kept_place j not)
      ]
    where
      going_on : (p : Place) (v : ℤ) → p.since ≤ tick → (p.level +ℤ pos ((tick + ticks) - p.since)
          *ℤ v)
          +ℤ pos (t - (tick + ticks)) *ℤ v ≡ p.level +ℤ pos (t - p.since) *ℤ v
      going_on p v before = let e : (tick + ticks) + (t - (tick + ticks)) ≡ t =
          omega (arith, later) in sym (line_later p.level v p.since (tick + ticks) (t - (tick +
          ticks)) (omega (
            arith,
            before,
          ))) ∙ ap (λ (s : ℕ). level_on p v s) e
