-- Levels at which no limit is exceeded.
use Rattle.std.specs.Prelude.{◌≡◌, ℕ, ◌<◌, false, List, length, ℤ, ◌*ℤ◌, ◌≤ℤ◌, Option, Some, None}
use Rattle.std.specs.Option.{option_or}
use Rattle.mu_num.specs.Sizes.{IsWithin, exceeds}
use Rattle.mu_num.specs.ListedPlaces.{is_listed}
use Rattle.qss_machine.specs.declared.compiled_machine.Machine.{Machine}
use Rattle.mu_num.specs.IndexedSums.{int_at, tabulate, abs_of, first_exceeding}
use Rattle.mu_num.specs.Limits.{bits_of_second_level, bits_of_second_state, IsSecondLevel}
use Rattle.qss_machine.specs.Machines.{state_count, level_unit}
use Rattle.qss_order2.specs.SecondSteps.{rise_weight, rise_change_weight}

-- the least state whose level exceeds its limit; if there is none, the least row whose absolute row
-- sum does
abbrev pub past_levels : Machine → List ℤ → Option ℕ
past_levels m levels = option_or (first_exceeding bits_of_second_level levels)
    (first_exceeding bits_of_second_state (tabulate (state_count m) (rise_weight m levels)))

-- the least row whose absolute row sum exceeds its limit
abbrev pub heavy_row : Machine → List ℤ → Option ℕ
heavy_row m levels = first_exceeding bits_of_second_state (tabulate (state_count m) (rise_weight m
    levels))

-- the least row for which the absolute row sum of the level slopes exceeds its limit
abbrev pub steep_row : Machine → List ℤ → Option ℕ
steep_row m changes = first_exceeding bits_of_second_state (tabulate (state_count m)
    (rise_change_weight m changes))

-- the absolute row sum of the level slopes of a row is within its limit
abbrev pub IsFlat : Machine → List ℤ → ℕ → Type 0
IsFlat m changes j = exceeds bits_of_second_state (rise_change_weight m changes j) ≡ false

-- the absolute row sum of the level slopes is within its limit for all rows outside a list
abbrev pub AreFlatOutside : Machine → List ℕ → List ℤ → Type 0
AreFlatOutside m list changes = (j : ℕ) → j < state_count m → is_listed list j ≡ false →
    IsFlat m changes j

-- level slopes, times the level unit, have at most 95 bits
abbrev pub AreHeld : Machine → List ℤ → Type 0
AreHeld m changes = (j : ℕ) → j < state_count m → IsWithin 95 (level_unit m *ℤ int_at changes j)

-- levels of absolute value at most `bound` exceed no limit
abbrev pub IsSafeBound : Machine → ℤ → Type 0
IsSafeBound m bound =
    (levels : List ℤ) → length levels ≡ state_count m → ((j : ℕ) → j < state_count m →
    abs_of (int_at levels j) ≤ℤ bound) → past_levels m levels ≡ None

-- if a bound is known, it has at most 49 bits, and levels up to it exceed no limit
abbrev pub IsSafeIfKnown : Machine → Option ℤ → Type 0
IsSafeIfKnown m safe_bound = (level : ℤ) → safe_bound ≡ Some level → IsSecondLevel level
    × IsSafeBound m level
