-- The data of a second-order simulator, and the snapshot that it represents.
use Rattle.std.specs.Prelude.{◌≡◌, ◌≢◌, ℕ, ◌+◌, ◌-◌, ◌<◌, ◌≤◌, ◌%◌, ◌⊎◌, Bool, true, false, ◌==◌}
use Rattle.std.specs.Prelude.{List, [], ◌∷◌, length, ℤ, pos, ◌-ℤ◌, ◌*ℤ◌, ◌<ℤ◌, ◌≤ℤ◌, unsigned_abs}
use Rattle.std.specs.Prelude.{Option, Some, None, slice_index_or, flat_map, replicate}
use Rattle.std.specs.Prelude.{vec_capacity, if◌then◌else◌}
use Rattle.std.specs.List.{range_with_len}
use Rattle.std.specs.Int.{int_wrap, w128}
use Rattle.mu_num.specs.Curves.{FirstUpTo}
use Rattle.mu_num.specs.Rounding.{floor_of}
use Rattle.mu_num.specs.Sizes.{IsWithin}
use Rattle.qss_machine.specs.declared.compiled_machine.Machine.{Machine}
use Rattle.mu_num.specs.ListedPlaces.{is_listed, AreRisingBelow}
use Rattle.mu_num.specs.IndexedSums.{int_at, tabulate, abs_of}
use Rattle.mu_num.specs.Limits.{look_span, IsSecondState}
use Rattle.qss_machine.specs.Machines.{state_count, discrete_count, level_unit}
use Rattle.qss_machine.specs.Legitimate.{start_coefficient}
use Rattle.qss_hand.specs.Works.{overflow_of}
use Rattle.qss_order2.specs.declared.order2_motion.Motion.{Motion}
use Rattle.qss_order2.specs.declared.order2_motion.Place.{Place}
use Rattle.qss_order2.specs.declared.order2_start.Store.{Store}
use Rattle.qss_order2.specs.declared.outcome2.Outcome2.{Outcome2}
use Rattle.qss_order2.specs.declared.order2_rows.Row2.{Row2}
use Rattle.qss_order2.specs.declared.order2_rows.Kind2.{Kind2}
use Rattle.qss_order2.specs.declared.order2_rows.Kind2.TheVariants.{Slope}
use Rattle.mu_num.specs.Writes.{IsWritten}
use Rattle.qss_order2.specs.Places.{AreLevelsWithin, no_place}
use Rattle.qss_order2.specs.Places.{place_in, place_at, floor_place, level_on, rise_on, states_on}
use Rattle.qss_order2.specs.Places.{levels_on, rises_on, IsSmallPlace, IsLineBounded, CanMove, CanRead}
use Rattle.qss_order2.specs.SecondRuns.{level_row, slope_row}
use Rattle.qss_order2.specs.SecondSteps.{SecondSnapshot, rise_at, reach_of}
use Rattle.qss_order2.specs.SecondSteps.{first_exceeding_limit, AreChanges, fine_states}
use Rattle.qss_order2.specs.SecondSteps.{fine_levels, limit_check_period, is_limit_check}
use Rattle.qss_order2.specs.SecondSteps.{leaves_quantum, is_requantization, next_states}
use Rattle.qss_order2.specs.SecondSteps.{next_levels}
use Rattle.qss_order2.specs.SecondRunLimits.{AreHeld, IsFlat, IsSafeIfKnown}
use Rattle.qss_order2.specs.SecondRunLaws.{bend_at, second_snapshot_after, gap_after, AreEventFree2}

-- the motion of all states at a tick, as lists: states, levels, level slopes, slopes of the states,
-- and their second differences
pub record MotionAt : Type 0 where
  pub states : List ℤ
  pub levels : List ℤ
  pub changes : List ℤ
  pub rises : List ℤ
  pub bends : List ℤ

abbrev pub motion_at : Machine → Motion → ℕ → MotionAt
motion_at m q tick = record {
  states = states_on (state_count m) q.places.items q.rises.items q.bends.items tick;
  levels = levels_on (state_count m) q.places.items q.changes.items tick;
  changes = q.changes.items;
  rises = rises_on (state_count m) q.places.items q.rises.items q.bends.items tick;
  bends = q.bends.items;
}

-- the snapshot of a motion
abbrev pub snapshot_of : MotionAt → SecondSnapshot
snapshot_of v = record { states = v.states; levels = v.levels; changes = v.changes }

-- the snapshot of a motion at a tick, and its levels there
abbrev pub snapshot_at : Machine → Motion → ℕ → SecondSnapshot
snapshot_at m q tick = snapshot_of (motion_at m q tick)

abbrev pub levels_of : Machine → Motion → ℕ → List ℤ
levels_of m q tick = levels_on (state_count m) q.places.items q.changes.items tick

-- the slopes of all states at levels, and the second differences at level slopes
abbrev pub rises_of : Machine → List ℤ → List ℤ
rises_of m levels = tabulate (state_count m) (λ j. rise_at m j levels)

abbrev pub bends_of : Machine → List ℤ → List ℤ
bends_of m changes = tabulate (state_count m) (λ j. bend_at m j changes)

-- the second differences of a motion, modulo 2^128
abbrev pub HasBends : Machine → Motion → Type 0
HasBends m q = (j : ℕ) → j < state_count m → int_at q.bends.items j ≡ int_wrap w128
    (bend_at m j q.changes.items)

-- all states of a motion can be moved to a tick
abbrev pub CanMoveTo : Machine → ℕ → Motion → Type 0
CanMoveTo m tick q = CanMove (state_count m) tick q.places.items q.changes.items q.rises.items
    q.bends.items

-- a bound is known, the level slopes of the states of a list are within it, and so are their levels
-- up to the end of a window
abbrev pub AreLinesSafe : Option ℤ → List ℕ → Motion → ℕ → Type 0
AreLinesSafe safe_bound list q window =
    (bound : ℤ) × (safe_bound ≡ Some bound) × ((j : ℕ) → is_listed list j ≡ true →
    IsLineBounded bound (place_in q.places.items j) (int_at q.changes.items j) window)

-- a bound is known, and the levels of the states of a list are within it at their own ticks
abbrev pub AreLevelsSafe : Option ℤ → List ℕ → Motion → Type 0
AreLevelsSafe safe_bound list q =
    (bound : ℤ) × (safe_bound ≡ Some bound) × AreLevelsWithin bound list q.places.items

-- the levels of a motion can be computed at a tick
abbrev pub CanReadAt : ℕ → Motion → Type 0
CanReadAt tick q = CanRead (length q.places.items) tick q.places.items q.changes.items

-- all states of a motion can be advanced to a tick
abbrev pub CanAdvance : ℕ → Motion → Type 0
CanAdvance tick q = CanMove (length q.places.items) tick q.places.items q.changes.items
    q.rises.items q.bends.items

-- lists with an element for each state
pub record HasLists (m : Machine) (q : Motion) : Type 0 where
  pub places : length q.places.items ≡ state_count m
  pub changes : length q.changes.items ≡ state_count m
  pub rises : length q.rises.items ≡ state_count m
  pub bends : length q.bends.items ≡ state_count m

pub record IsSized (m : Machine) (v : MotionAt) : Type 0 where
  pub states : length v.states ≡ state_count m
  pub levels : length v.levels ≡ state_count m
  pub changes : length v.changes ≡ state_count m
  pub rises : length v.rises ≡ state_count m
  pub bends : length v.bends ≡ state_count m

-- slopes and second differences are those of the levels and of the level slopes, and the level
-- slopes are bounded
pub record HasRises (m : Machine) (v : MotionAt) : Type 0 where
  pub rises : v.rises ≡ rises_of m v.levels
  pub bends : v.bends ≡ bends_of m v.changes
  pub held : AreHeld m v.changes

-- each state is less than its quantum from its level
abbrev pub IsNear2 : Machine → SecondSnapshot → Type 0
IsNear2 m w = (j : ℕ) → j < state_count m → pos
    (unsigned_abs (int_at w.states j -ℤ level_unit m *ℤ int_at w.levels j)) <ℤ reach_of m j

-- a motion within its limits, in which each state is less than its quantum from its level
pub record Moves (m : Machine) (v : MotionAt) : Type 0 where
  pub sized : IsSized m v
  pub near : IsNear2 m (snapshot_of v)
  pub within : first_exceeding_limit m v.levels v.changes ≡ None
  pub has_rises : HasRises m v

-- the levels after some ticks, where these states leave
abbrev pub levels_after : Machine → SecondSnapshot → (ℕ → Bool) → ℕ → List ℤ
levels_after m w left ticks =
    tabulate (state_count m) (λ j. if left j then floor_of
    (int_at (second_snapshot_after m w ticks).states j) (level_unit m) else int_at
    (second_snapshot_after m w ticks).levels j)

-- the due tick of a state
abbrev pub due_at : List (Option ℕ) → ℕ → Option ℕ
due_at dues j = slice_index_or dues j None

-- the first of `reach` ticks after a snapshot at which a state is at least a quantum from its level
abbrev pub IsDue2 : Machine → SecondSnapshot → ℕ → ℕ → Option ℕ → Type 0
IsDue2 m w reach j found = FirstUpTo (λ k. reach_of m j ≤ℤ pos (unsigned_abs (gap_after m w j k)))
    reach found

-- whether a state is due after this number of ticks
abbrev pub is_due : Option ℕ → ℕ → Bool
is_due (Some due) ticks = due == ticks
is_due None ticks = false

-- the number of ticks from a tick to the next scheduled limit check
pub record IsWindow (tick last reach : ℕ) : Type 0 where
  pub some : 1 ≤ reach
  pub few : reach ≤ limit_check_period
  pub in_time : tick + reach ≤ last
  pub no_look : tick % limit_check_period + reach ≤ limit_check_period
  pub ends : (tick + reach ≡ last) ⊎ ((tick + reach) % limit_check_period ≡ 0)

-- the number of ticks from a tick to a due tick, if there is one
abbrev pub until : ℕ → Option ℕ → Option ℕ
until tick None = None
until tick (Some due) = Some (due - tick)

-- the due ticks of all states up to the end of a window
pub record HasDues (m : Machine) (tick window : ℕ) (w : SecondSnapshot) (dues : List (Option ℕ)) :
    Type 0 where
  pub is_window : IsWindow tick m.last (window - tick)
  pub each : (j : ℕ) → j < state_count m → IsDue2 m w (window - tick) j (until tick (due_at dues j))

-- the due ticks of the states that are not affected, up to the end of a window
pub record KeepsDues (m : Machine) (tick window : ℕ) (w : SecondSnapshot) (affected : ℕ →
    Bool) (dues : List (Option ℕ)) : Type 0 where
  pub is_window : IsWindow tick m.last (window - tick)
  pub quiet : (j : ℕ) → j < state_count m → affected j ≡ false → IsDue2 m w (window - tick) j
      (until tick (due_at dues j))

-- the number of ticks from a snapshot to the next event or limit check, and the states that leave
-- their quanta there
pub record IsNextEvent (m : Machine) (tick : ℕ) (w : SecondSnapshot) (due : ℕ → Option ℕ) (left : ℕ
    →
    Bool) (ticks : ℕ) : Type 0 where
  pub reach : ℕ
  pub is_window : IsWindow tick m.last reach
  pub within : ticks ≤ reach
  pub each : (j : ℕ) → j < state_count m → IsDue2 m w reach j (due j)
  pub none_before : (j d : ℕ) → j < state_count m → due j ≡ Some d → ticks ≤ d
  pub reached : ticks < reach → (j : ℕ) × (j < state_count m) × (due j ≡ Some ticks)
  pub flags : (j : ℕ) → j < state_count m → left j ≡ is_due (due j) ticks

-- a state does not leave its quantum, and its row reads no state that does
pub record IsQuiet (m : Machine) (left : ℕ → Bool) (j : ℕ) : Type 0 where
  pub stays : left j ≡ false
  pub reads_none : (i : ℕ) → i < state_count m → left i ≡ true → start_coefficient m j i ≡ pos 0

-- all states that are not affected are quiet
abbrev pub AreQuiet : Machine → (ℕ → Bool) → (ℕ → Bool) → Type 0
AreQuiet m left affected = (j : ℕ) → j < state_count m → affected j ≡ false → IsQuiet m left j

-- a state left, or its row reads one that left
abbrev pub IsAffected : Machine → (ℕ → Bool) → ℕ → Type 0
IsAffected m left j = (left j ≡ true) ⊎ ((i : ℕ) × (left i ≡ true) ×
    (start_coefficient m j i ≢ pos 0))

-- from a snapshot to the next event or limit check: a number of event-free ticks, and one more, at
-- which these states leave their quanta
pub record IsMovedOn (m : Machine) (tick : ℕ) (w : SecondSnapshot) (skipped : ℕ) (left : ℕ →
    Bool) (states levels : List ℤ) : Type 0 where
  pub are_event_free : AreEventFree2 m tick w skipped
  pub in_time : tick + skipped < m.last
  pub flags : (j : ℕ) → j < state_count m → left j ≡ leaves_quantum m
      (second_snapshot_after m w skipped) j
  pub states_there : states ≡ next_states m (second_snapshot_after m w skipped)
  pub levels_there : levels ≡ next_levels m (second_snapshot_after m w skipped)
  pub looks : is_limit_check m (tick + skipped + 1) (is_requantization m
      (second_snapshot_after m w skipped)) ≡ true

-- the rows of the states that left: of a level, and of how much that changes
abbrev pub rows_of_left : Kind2 → ℕ → SecondSnapshot → (ℕ → Bool) → ℕ → List Row2
rows_of_left kind tick w left count = flat_map (λ j. if left j then level_row kind tick w j ∷
    slope_row tick w j ∷ [] else []) (range_with_len 0 count)

-- the rows of a state at its place
abbrev pub place_rows : Kind2 → ℕ → List Place → List ℤ → ℕ → List Row2
place_rows kind tick places changes j =
    record {
      tick = tick;
      kind = kind;
      var = j;
      level = (place_in places j).level;
      state =
          (place_in places j).state;
    }
    ∷ record { tick = tick; kind = Slope; var = j; level = int_at changes j; state = pos 0 } ∷ []

-- lists of the machine's lengths, and capacity for all rows of a tick
pub record FitsMachine (m : Machine) (s : Store) : Type 0 where
  pub lists : HasLists m s.motion
  pub dues : length s.dues ≡ state_count m
  pub left : state_count m ≤ vec_capacity s.left
  pub affected : s.affected.count ≡ state_count m
  pub safe_bound : IsSafeIfKnown m s.safe_bound
  pub levels : length s.levels.items ≡ state_count m
  pub rows : state_count m + state_count m + discrete_count m + 1 ≤ vec_capacity s.rows

-- the levels of some states are within the safe bound from a tick on to another
abbrev pub AreLevelsBoundedUntil : ℕ → List Place → List ℤ → ℕ → ℕ → Option ℤ → Type 0
AreLevelsBoundedUntil n places changes tick end safe_bound =
    (bound : ℤ) × (safe_bound ≡ Some bound) × ((j t : ℕ) → j < n → tick ≤ t → t ≤ end →
    abs_of (level_on (place_in places j) (int_at changes j) t) ≤ℤ bound)

-- the level slopes are within the safe bound
abbrev pub AreLevelSlopesBounded : ℕ → List ℤ → Option ℤ → Type 0
AreLevelSlopesBounded n changes safe_bound = (bound : ℤ) × (safe_bound ≡ Some bound) × ((j : ℕ)
    → j < n →
    abs_of (int_at changes j) ≤ℤ bound)

-- each state is at a tick of its own up to this one, at most a period before the end of the window,
-- and all numbers are small
pub record AreMovableUntil (n tick window : ℕ) (places : List Place) (changes rises bends : List ℤ)
    :
    Type 0 where
  pub past : (j : ℕ) → j < n → (place_in places j).since ≤ tick
  pub near : (j : ℕ) → j < n → window ≤ (place_in places j).since + look_span
  pub small : (j : ℕ) → j < n → IsSmallPlace (place_in places j)
  pub small_changes : (j : ℕ) → j < n → IsWithin 95 (int_at changes j)
  pub small_rises : (j : ℕ) → j < n → IsSecondState (int_at rises j)
  pub small_bends : (j : ℕ) → j < n → IsSecondState (int_at bends j)

abbrev pub IsMovableUntil : Machine → ℕ → ℕ → Motion → Type 0
IsMovableUntil m tick window q =
    AreMovableUntil (state_count m) tick window q.places.items q.changes.items q.rises.items
    q.bends.items

-- a store within its limits at a tick: the places of the affected states are of the tick
pub record IsWithinLimits (m : Machine) (tick : ℕ) (s : Store) : Type 0 where
  pub moves : Moves m (motion_at m s.motion tick)
  pub movable : IsMovableUntil m tick s.window s.motion
  pub in_window : tick ≤ s.window
  pub bounded : s.unbounded ≡ false → AreLevelsBoundedUntil (state_count m) s.motion.places.items
      s.motion.changes.items tick s.window s.safe_bound
  pub bounded_slopes : s.unbounded ≡ false → AreLevelSlopesBounded (state_count m)
      s.motion.changes.items s.safe_bound
  pub here : (j : ℕ) → is_listed s.affected.places j ≡ true →
      (j < state_count m) × ((place_in s.motion.places.items j).since ≡ tick)

-- the due ticks of all states, up to the end of the window, are scheduled
pub record HasSchedule (m : Machine) (tick : ℕ) (s : Store) : Type 0 where
  pub goes : IsWithinLimits m tick s
  pub dues : HasDues m tick s.window (snapshot_at m s.motion tick) s.dues

-- the place of a state at a later tick
abbrev pub place_there : ℕ → Motion → ℕ → Place
place_there tick q j = place_at (place_in q.places.items j) (int_at q.changes.items j)
    (int_at q.rises.items j) (int_at q.bends.items j) tick

-- the slope of a state at a later tick
abbrev pub rise_there : ℕ → Motion → ℕ → ℤ
rise_there tick q j = rise_on (place_in q.places.items j) (int_at q.rises.items j)
    (int_at q.bends.items j) tick

-- the states of a list are at a tick, with their slopes
pub record IsAdvanced (tick : ℕ) (list : List ℕ) (old new : Motion) : Type 0 where
  pub changes : new.changes ≡ old.changes
  pub bends : new.bends ≡ old.bends
  pub places : IsWritten no_place (λ j p. p ≡ place_there tick old j) list old.places.items
      new.places.items
  pub rises : IsWritten (pos 0) (λ j z. z ≡ rise_there tick old j) list old.rises.items
      new.rises.items

-- the slopes of all states at a tick are those of its levels
abbrev pub FollowsLevels : Machine → ℕ → Motion → Type 0
FollowsLevels m tick q =
    (j : ℕ) → j < state_count m → rise_there tick q j ≡ rise_at m j (levels_of m q tick)

-- the slopes of the affected states are those of the levels at a tick, modulo 2^128
abbrev pub HasRisen : Machine → ℕ → List ℕ → Motion → Type 0
HasRisen m tick affected q =
    (j : ℕ) → j < state_count m → is_listed affected j ≡ true →
    int_at q.rises.items j ≡ int_wrap w128 (rise_at m j (levels_of m q tick))

-- the affected states are at a tick, those that left have new levels, and the slopes follow; the
-- other states are unchanged
pub record HasNewLevels (m : Machine) (tick : ℕ) (left affected : List ℕ) (old new : Motion) : Type
    0
  where
    pub changes : new.changes.items ≡ old.changes.items
    pub bends : new.bends.items ≡ old.bends.items
    pub rises : (j : ℕ) → j < state_count m → is_listed affected j ≡ false →
        int_at new.rises.items j ≡ int_at old.rises.items j
    pub risen : HasRisen m tick affected new
    pub own : (j : ℕ) → is_listed left j ≡ true → is_listed affected j ≡ true
    pub leaving : (j : ℕ) → is_listed left j ≡ true → place_in new.places.items j ≡ floor_place
        (place_there tick old j) (level_unit m)
    pub moved : (j : ℕ) → is_listed affected j ≡ true → is_listed left j ≡ false →
        place_in new.places.items j ≡ place_there tick old j
    pub others : (j : ℕ) → is_listed affected j ≡ false →
        place_in new.places.items j ≡ place_in old.places.items j

-- the window and what is known of the levels in it are the same
abbrev pub KeepsWindow : Store → Store → Type 0
KeepsWindow old new = (new.window ≡ old.window) × (new.unbounded ≡ old.unbounded)
    × (new.safe_bound ≡ old.safe_bound)

-- at a tick, the states that left have new levels, and the rule can be applied to them
pub record CanApplyRule (m : Machine) (tick : ℕ) (s : Store) : Type 0 where
  pub reads : CanRead (state_count m) tick s.motion.places.items s.motion.changes.items
  pub in_window : tick ≤ s.window
  pub near : (j : ℕ) → j < state_count m → s.window ≤ (place_in s.motion.places.items j).since +
      look_span
  pub bounded : s.unbounded ≡ false →
      (bound : ℤ) × (s.safe_bound ≡ Some bound)
      × ((j : ℕ) → j < state_count m → is_listed s.left.items j ≡ false →
      abs_of (level_on (place_in s.motion.places.items j) (int_at s.motion.changes.items j) tick)
      ≤ℤ bound)
  pub bounded_slopes : s.unbounded ≡ false → AreLevelSlopesBounded (state_count m)
      s.motion.changes.items s.safe_bound
  pub risen : HasRisen m tick s.affected.places s.motion
  pub bends : HasBends m s.motion
  pub flat : (j : ℕ) → j < state_count m → IsFlat m s.motion.changes.items j
  pub held : AreHeld m s.motion.changes.items
  pub numbers : AreRisingBelow (state_count m) s.left.items
  pub here : (j : ℕ) → is_listed s.affected.places j ≡ true →
      (j < state_count m) × ((place_in s.motion.places.items j).since ≡ tick)
  pub own : (j : ℕ) → is_listed s.left.items j ≡ true → is_listed s.affected.places j ≡ true
  pub quiet : AreQuiet m (is_listed s.left.items) (is_listed s.affected.places)

-- new level slopes that the rule allows, and the second differences of all rows, modulo 2^128
pub record HasChanged (Rule : ℤ → ℤ → ℤ → Type 0) (m : Machine) (left : List ℕ) (levels : List ℤ)
    (old new : Motion) : Type 0 where
  pub are_changes : AreChanges Rule m (is_listed left) levels old.changes.items new.changes.items
  pub places : new.places ≡ old.places
  pub rises : new.rises ≡ old.rises
  pub held : AreHeld m new.changes.items
  pub bends : HasBends m new

-- level slopes that the rule allows, and the least state that exceeds a limit; if there is none, the
-- motion has these slopes, the affected states have the slopes of the new levels, and all rows have
-- the second differences of the level slopes
pub record IsRuleApplied (Rule : ℤ → ℤ → ℤ → Type 0) (m : Machine) (left affected : List ℕ)
    (levels : List ℤ) (old new : Motion) (over : Option ℕ) : Type 0 where
  pub changes : List ℤ
  pub are_changes : AreChanges Rule m (is_listed left) levels old.changes.items changes
  pub is_over : over ≡ first_exceeding_limit m levels changes
  pub places : new.places ≡ old.places
  pub taken : over ≡ None → new.changes.items ≡ changes
  pub held : over ≡ None → AreHeld m changes
  pub rises : new.rises ≡ old.rises
  pub risen : over ≡ None → (j : ℕ) → j < state_count m → is_listed affected j ≡ true →
      int_at new.rises.items j ≡ rise_at m j levels
  pub bends : over ≡ None → (j : ℕ) → j < state_count m →
      int_at new.bends.items j ≡ bend_at m j changes

-- a store represents its snapshot at a tick; if a state exceeds a limit, the tick is 0
pub record IsStoreAt (m : Machine) (tick : ℕ) (s : Store) : Type 0 where
  pub fits : FitsMachine m s
  pub over : first_exceeding_limit m (motion_at m s.motion tick).levels s.motion.changes.items ≡
      overflow_of s.over
  pub at_start : (var : ℕ) → overflow_of s.over ≡ Some var → tick ≡ 0
  pub goes : overflow_of s.over ≡ None → IsWithinLimits m tick s
  pub dues : overflow_of s.over ≡ None → tick < s.window →
      KeepsDues m tick s.window (snapshot_at m s.motion tick)
      (is_listed s.affected.places) s.dues

-- the place of a state at the start
abbrev pub start_place : Machine → ℕ → Place
start_place m j = record {
  since = 0;
  state = int_at (fine_states m) j;
  level =
      int_at (fine_levels m) j;
}

-- the states and levels at the start, with level slopes of 0
pub record IsAtRest (m : Machine) (q : Motion) : Type 0 where
  pub lists : HasLists m q
  pub places : q.places.items ≡ tabulate (state_count m) (start_place m)
  pub changes : q.changes.items ≡ replicate (state_count m) (pos 0)

-- an allocated store with the states and levels of the start, at which the rule is to be applied to
-- all states
pub record IsAllocated (m : Machine) (s : Store) : Type 0 where
  pub fits : FitsMachine m s
  pub at_rest : IsAtRest m s.motion
  pub left : s.left.items ≡ range_with_len 0 (state_count m)
  pub affected : s.affected.places ≡ []
  pub window : s.window ≡ 0
  pub unbounded : s.unbounded ≡ true

-- the data of a simulator: a tick of the run, and until the end of the run a store that represents
-- its snapshot
pub record IsSim (m : Machine) (tick : ℕ) (end : Option Outcome2) (s : Store) : Type 0 where
  pub in_time : tick ≤ m.last
  pub is_store : end ≡ None → IsStoreAt m tick s
