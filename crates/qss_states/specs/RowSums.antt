-- Defines the two sums of a row over levels: its slope, and its absolute row sum.
use Rattle.std.specs.Prelude.{◌≡◌, ℕ, ◌+◌, ◌^◌, ◌<◌, ◌≤◌, List, length, ℤ, ◌+ℤ◌, ◌-ℤ◌, ◌*ℤ◌}
use Rattle.std.specs.Prelude.{unsigned_abs, None, position}
use Rattle.qss_machine.specs.declared.compiled_machine.Machine.{Machine}
use Rattle.qss_machine.specs.Machines.{state_count, mode_coefficient_at, slope_at, weight_at}
use Rattle.mu_num.specs.IndexedSums.{int_at, abs_of, tabulate}
use Rattle.qss_machine.specs.Ticks.{exceeds_row_limits}
use Rattle.qss_quant.specs.IntegratorLines.{Line}
use Rattle.qss_states.specs.declared.row_sum_changes.RowSum.{RowSum}
use Rattle.qss_states.specs.declared.row_sum_changes.RowSum.TheVariants.{Slope, Weight}
use Rattle.mu_num.specs.ListedPlaces.{DiffersOnlyAt}
use Rattle.mu_num.specs.Limits.{AreLevels}
use Rattle.qss_states.specs.StateLines.{line_at}
use Rattle.qss_states.specs.Variables.{AreLevelsOf}

-- a number as a factor of a sum: itself, or its absolute value
abbrev pub taken_by : RowSum → ℤ → ℤ
taken_by Slope z = z
taken_by Weight z = abs_of z

-- the sum of a row at levels and discrete values
abbrev pub sum_at : RowSum → Machine → ℕ → List ℤ → List ℤ → ℤ
sum_at Slope m j levels discretes = slope_at m j levels discretes
sum_at Weight m j levels discretes = weight_at m j levels discretes

-- a sum of each row, and levels and discrete values within the limit
pub record HasSums (m : Machine) (levels discretes sums : List ℤ) : Type 0 where
  pub values : AreLevelsOf m levels discretes
  pub one_each : length sums ≡ state_count m

-- the sums of all rows may be computed: levels and discrete values are within the limit, and no row
-- exceeds its limits
pub record CanAddUp (m : Machine) (levels discretes sums : List ℤ) : Type 0 where
  pub of : HasSums m levels discretes sums
  pub light : position (exceeds_row_limits m levels discretes) m.rows ≡ None

-- the levels of the lines, within their limit, at which, with these discrete values, no row exceeds
-- its limits
pub record AreLevelsOfLines (m : Machine) (lines : List Line) (levels discretes : List ℤ) : Type 0 where
  pub small : AreLevels levels
  pub light : position (exceeds_row_limits m levels discretes) m.rows ≡ None
  pub own_levels : (j : ℕ) → j < state_count m → (line_at lines j).level ≡ int_at levels j

-- the levels of the lines, before the moved states changed theirs
pub record AreLevelsBefore (m : Machine) (moved : List ℕ) (new discretes : List ℤ) (lines : List Line) (old : List ℤ) : Type 0 where
  pub off : DiffersOnlyAt moved old new
  pub of_lines : AreLevelsOfLines m lines old discretes

-- the levels before, and the sums of all rows at these levels
pub record AreSumsBefore (kind : RowSum) (m : Machine) (moved : List ℕ) (new discretes sums : List ℤ) (lines : List Line) (old : List ℤ) : Type 0 where
  pub levels : AreLevelsBefore m moved new discretes lines old
  pub own_sums : sums ≡ tabulate (state_count m) (λ j. sum_at kind m j old discretes)

-- sums and lines at the levels before, for some such levels
abbrev pub HadSums : RowSum → Machine → List ℕ → List ℤ → List ℤ → List ℤ → List Line → Type 0
HadSums kind m moved levels discretes sums lines = (old : List ℤ) × AreSumsBefore kind m moved levels discretes sums lines old

-- the sum of a row after a state changed its level, and a bound on the absolute value of this sum
abbrev pub IsSumAfterLevelChange : RowSum → Machine → ℕ → ℤ → ℤ → List ℤ → List ℤ → ℕ → ℤ → Type 0
IsSumAfterLevelChange kind m state old new discretes sums j sum =
    (sum ≡ int_at sums j +ℤ taken_by kind (mode_coefficient_at m j state discretes) *ℤ (new -ℤ old)) × (unsigned_abs sum ≤ unsigned_abs (int_at sums j) + 2 ^ 88)
