-- One point of a second-order run.
use Rattle.std.specs.Prelude.{◌≡◌, ℕ, Bool, not, List, length, ℤ, pos, ◌+ℤ◌, ◌-ℤ◌, ◌*ℤ◌}
use Rattle.std.specs.Prelude.{unsigned_abs, int_lt, All, if◌then◌else◌}
use Rattle.mu_num.specs.Rounding.{floor_of}
use Rattle.mu_num.specs.Sizes.{IsWithin}
use Rattle.qss_machine.specs.declared.compiled_machine.Machine.{Machine}
use Rattle.mu_num.specs.ListedPlaces.{flag_at}
use Rattle.mu_num.specs.IndexedSums.{int_at, tabulate}
use Rattle.qss_machine.specs.Machines.{state_count, level_unit}
use Rattle.qss_order2.specs.SecondSteps.{SecondSnapshot, reach_of, rise_at, nearest_change}
use Rattle.qss_order2.specs.SecondRunLimits.{AreHeld}
use Rattle.qss_own_traces.specs.declared.second_order_trace.SecondPlace.{SecondPlace}

-- the snapshot of a point
abbrev pub snapshot_of : SecondPlace → SecondSnapshot
snapshot_of place = record { states = place.states.items; levels = place.levels.items; changes = place.changes.items }

-- whether a state is at least a quantum from its level after one tick
abbrev pub leaves_from : Machine → ℕ → ℤ → ℤ → ℤ → Bool
leaves_from m j state level change = not (int_lt (pos (unsigned_abs (state -ℤ level_unit m *ℤ (level +ℤ change)))) (reach_of m j))

-- a point with one number for each state in its lists
pub record IsSized (m : Machine) (place : SecondPlace) : Type 0 where
  pub states : length place.states.items ≡ state_count m
  pub levels : length place.levels.items ≡ state_count m
  pub changes : length place.changes.items ≡ state_count m
  pub left : length place.left.items ≡ state_count m

-- a point within the range of traces
pub record IsWithinLimits (m : Machine) (place : SecondPlace) : Type 0 where
  pub sized : IsSized m place
  pub held : AreHeld m place.changes.items
  pub small_states : All (IsWithin 108) place.states.items
  pub small_levels : All (IsWithin 64) place.levels.items

-- the level slopes after the requantized states take the nearest ones
abbrev pub changed : Machine → List Bool → List ℤ → List ℤ → List ℤ
changed m left levels changes =
    tabulate (state_count m) (λ j. if flag_at left j then nearest_change (level_unit m) (rise_at m j levels) else int_at changes j)

-- the level slopes of a point after the requantized states take the nearest ones, by state
abbrev pub change_after : Machine → SecondPlace → ℕ → ℤ
change_after m place j = if flag_at place.left.items j
    then nearest_change (level_unit m) (rise_at m j place.levels.items)
    else int_at place.changes.items j

abbrev pub changes_after : Machine → SecondPlace → List ℤ
changes_after m place = changed m place.left.items place.levels.items place.changes.items

-- whether a state at a number is at least a quantum from its level after one tick
abbrev pub leaves_at : Machine → SecondPlace → ℕ → ℤ → Bool
leaves_at m place j state = leaves_from m j state (int_at place.levels.items j)
    (int_at place.changes.items j)

-- the level of a state after one tick, if the states have moved: the floor of the state if it is
-- requantized
abbrev pub level_after : Machine → SecondPlace → ℕ → ℤ
level_after m place j = if flag_at place.left.items j
    then floor_of (int_at place.states.items j) (level_unit m)
    else int_at place.levels.items j +ℤ int_at place.changes.items j
