-- Defines how slopes and absolute row sums change with one level or one discrete value.
use Rattle.std.specs.Prelude.{◌≡◌, ◌≢◌, ℕ, ◌+◌, ◌-◌, ◌<◌, ◌==◌, false, List, length, slice_set, ℤ, ◌+ℤ◌, ◌-ℤ◌, ◌*ℤ◌}
use Rattle.std.specs.List.{list_any}
use Rattle.qss_machine.specs.declared.machine_parts.SlopeRow.{SlopeRow}
use Rattle.qss_machine.specs.declared.compiled_machine.Machine.{Machine}
use Rattle.mu_num.specs.IndexedSums.{int_at, abs_of}
use Rattle.qss_machine.specs.Slopes.{coefficient_of, mode_coefficient, slope_of, weight_of}
use Rattle.qss_machine.specs.Machines.{state_count, level_unit}
use Rattle.mu_num.specs.Levels.{IsWithinOneLevel}
use Rattle.qss_machine.specs.Ticks.{is_within_quantum}

-- a slope changes by the coefficient in the current mode times the change of the level; an absolute
-- row sum changes by the absolute values of these numbers
pub record SlopesFollowLevels : Type 0 where
  pub slope : (bits : ℕ) (row : SlopeRow) (levels discretes : List ℤ) (i : ℕ) (level : ℤ) → i < length levels →
      slope_of bits row (slice_set levels i level) discretes
      ≡ slope_of bits row levels discretes +ℤ mode_coefficient bits (length levels) row discretes i *ℤ (level -ℤ int_at levels i)
  pub weight : (bits : ℕ) (row : SlopeRow) (levels discretes : List ℤ) (i : ℕ) (level : ℤ) → i < length levels →
      weight_of bits row (slice_set levels i level) discretes
      ≡ weight_of bits row levels discretes +ℤ abs_of (mode_coefficient bits (length levels) row discretes i) *ℤ (abs_of level -ℤ abs_of (int_at levels i))

-- if a state has left its quantum, each level that the free rule allows differs from the old level
abbrev pub LeavingChangesLevel : Type 0
LeavingChangesLevel =
    (m : Machine) (j : ℕ) (state old new : ℤ) → j < state_count m → is_within_quantum m j state old ≡ false → IsWithinOneLevel (level_unit m) state old new → new ≢ old

-- the slope of a row without a product of a discrete value changes by the coefficient times the
-- change of this value
abbrev pub SlopesFollowDiscretes : Type 0
SlopesFollowDiscretes =
    (bits : ℕ) (row : SlopeRow) (levels discretes : List ℤ) (g : ℕ) (value : ℤ) → g < length discretes →
    list_any (λ product. (product.discrete - length levels) == g) row.products ≡ false →
    slope_of bits row levels (slice_set discretes g value)
    ≡ slope_of bits row levels discretes +ℤ coefficient_of row.entries (length levels + g) *ℤ (value -ℤ int_at discretes g)
