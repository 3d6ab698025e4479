-- States and levels, each at a tick of its own, and their values at later ticks.
use Rattle.std.specs.Prelude.{◌≡◌, true, ℕ, ◌+◌, ◌-◌, ◌<◌, ◌≤◌, List, length, ℤ, pos, ◌+ℤ◌, ◌-ℤ◌}
use Rattle.std.specs.Prelude.{◌*ℤ◌, ◌≤ℤ◌, slice_index_or}
use Rattle.mu_num.specs.Curves.{curve_at}
use Rattle.mu_num.specs.Rounding.{floor_of}
use Rattle.mu_num.specs.Sizes.{IsWithin}
use Rattle.mu_num.specs.ListedPlaces.{is_listed}
use Rattle.qss_machine.specs.declared.compiled_machine.Machine.{Machine}
use Rattle.mu_num.specs.IndexedSums.{int_at, tabulate, abs_of, sum_below}
use Rattle.mu_num.specs.Limits.{look_span, IsSecondLevel, IsSecondState}
use Rattle.qss_machine.specs.Legitimate.{start_coefficient}
use Rattle.qss_machine.specs.Machines.{state_count}
use Rattle.qss_order2.specs.declared.order2_motion.Place.{Place}

-- the default past the end of a list of places
abbrev pub no_place : Place
no_place = record { since = 0; state = pos 0; level = pos 0 }

abbrev pub place_in : List Place → ℕ → Place
place_in places j = slice_index_or places j no_place

-- a state, and its level, at a tick
abbrev pub state_on : Place → ℤ → ℤ → ℕ → ℤ
state_on p rise bend tick = curve_at p.state rise bend (tick - p.since)

abbrev pub level_on : Place → ℤ → ℕ → ℤ
level_on p change tick = p.level +ℤ pos (tick - p.since) *ℤ change

-- the slope of a state at a tick
abbrev pub rise_on : Place → ℤ → ℤ → ℕ → ℤ
rise_on p rise bend tick = rise +ℤ pos (tick - p.since) *ℤ bend

-- the place of a state at a tick
abbrev pub place_at : Place → ℤ → ℤ → ℤ → ℕ → Place
place_at p change rise bend tick = record {
  since = tick;
  state = state_on p rise bend tick;
  level =
      level_on p change tick;
}

-- a state that takes the greatest level at most it
abbrev pub floor_place : Place → ℤ → Place
floor_place p unit = record { since = p.since; state = p.state; level = floor_of p.state unit }

-- the states, the levels, and the slopes of the states at a tick
unfoldable pub states_on : ℕ → List Place → List ℤ → List ℤ → ℕ → List ℤ
states_on n places rises bends tick = tabulate n (λ j. state_on (place_in places j) (int_at rises j)
    (int_at bends j) tick)

unfoldable pub levels_on : ℕ → List Place → List ℤ → ℕ → List ℤ
levels_on n places changes tick = tabulate n (λ j. level_on (place_in places j) (int_at changes j)
    tick)

unfoldable pub rises_on : ℕ → List Place → List ℤ → List ℤ → ℕ → List ℤ
rises_on n places rises bends tick = tabulate n (λ j. int_at rises j +ℤ pos
    (tick - (place_in places j).since) *ℤ int_at bends j)

-- the levels of all places of a list at a tick
abbrev pub levels_in : List Place → List ℤ → ℕ → List ℤ
levels_in places changes tick = levels_on (length places) places changes tick

-- the place of a state of lists, moved to a tick
abbrev pub moved_in : List Place → List ℤ → List ℤ → List ℤ → ℕ → ℕ → Place
moved_in places changes rises bends tick j =
    place_at (place_in places j) (int_at changes j) (int_at rises j) (int_at bends j) tick

-- a state of at most 94 bits, and a level of at most 49
pub record IsSmallPlace (p : Place) : Type 0 where
  pub state : IsSecondState p.state
  pub level : IsSecondLevel p.level

-- places that are not at the tick can be moved to it: they are small, and at most 65,536 ticks earlier
pub record CanMove (n tick : ℕ) (places : List Place) (changes rises bends : List ℤ) : Type 0 where
  pub as_many_changes : length changes ≡ n
  pub as_many_rises : length rises ≡ n
  pub as_many_bends : length bends ≡ n
  pub past : (j : ℕ) → j < n → (place_in places j).since ≤ tick
  pub near : (j : ℕ) → j < n → tick ≤ (place_in places j).since + look_span
  pub small : (j : ℕ) → j < n → (place_in places j).since < tick → IsSmallPlace (place_in places j)
  pub small_changes : (j : ℕ) → j < n → IsWithin 95 (int_at changes j)
  pub small_rises : (j : ℕ) → j < n → (place_in places j).since < tick →
      IsSecondState (int_at rises j)
  pub small_bends : (j : ℕ) → j < n → IsSecondState (int_at bends j)

-- how far new levels shift the slope of a row
abbrev pub level_shift : Machine → ℕ → List Place → List Place → ℤ
level_shift m i old new =
    sum_below (state_count m) (λ j. start_coefficient m i j *ℤ ((place_in new j).level -ℤ
    (place_in old j).level))

-- how far new level slopes shift the second difference of a row
abbrev pub change_shift : Machine → ℕ → List ℤ → List ℤ → ℤ
change_shift m i old new = sum_below (state_count m) (λ j. start_coefficient m i j *ℤ
    (int_at new j -ℤ int_at old j))

-- a level, its slope, and the level at a tick are at most a bound in size
pub record IsLineWithin (bound : ℤ) (p : Place) (change : ℤ) (tick : ℕ) : Type 0 where
  pub level : abs_of p.level ≤ℤ bound
  pub slope : abs_of change ≤ℤ bound
  pub later : abs_of (level_on p change tick) ≤ℤ bound

-- a level slope, and all levels up to the end of a window, are at most a bound in size
pub record IsLineBounded (bound : ℤ) (p : Place) (change : ℤ) (window : ℕ) : Type 0 where
  pub slope : abs_of change ≤ℤ bound
  pub levels : (t : ℕ) → p.since ≤ t → t ≤ window → abs_of (level_on p change t) ≤ℤ bound

-- levels can be computed at a tick
pub record CanRead (n tick : ℕ) (places : List Place) (changes : List ℤ) : Type 0 where
  pub as_many_changes : length changes ≡ n
  pub past : (j : ℕ) → j < n → (place_in places j).since ≤ tick
  pub near : (j : ℕ) → j < n → tick ≤ (place_in places j).since + look_span
  pub small : (j : ℕ) → j < n → (place_in places j).since < tick →
      IsSecondLevel (place_in places j).level
  pub small_changes : (j : ℕ) → j < n → (place_in places j).since < tick →
      IsWithin 95 (int_at changes j)

-- the levels of the states of a list are at most a bound in size
abbrev pub AreLevelsWithin : ℤ → List ℕ → List Place → Type 0
AreLevelsWithin bound list places = (j : ℕ) → is_listed list j ≡ true →
    abs_of (place_in places j).level ≤ℤ bound

-- their levels and level slopes, and the levels at a tick, are at most a bound in size
abbrev pub AreLinesWithin : ℤ → List ℕ → List Place → List ℤ → ℕ → Type 0
AreLinesWithin bound list places changes tick =
    (j : ℕ) → is_listed list j ≡ true → IsLineWithin bound (place_in places j) (int_at changes j)
    tick
