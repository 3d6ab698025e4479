-- Defines the least row, of those examined, whose absolute row sum exceeds the limit.
use Rattle.std.specs.Prelude.{◌≡◌, ℕ, ◌<◌, nat_lt, Bool, true, false, List, length, ℤ, Option, Some}
use Rattle.std.specs.Prelude.{None, MatchBool}
use Rattle.mu_num.specs.Sizes.{exceeds}
use Rattle.qss_machine.specs.declared.compiled_machine.Machine.{Machine}
use Rattle.qss_machine.specs.Machines.{state_count, row_at, weight_at}
use Rattle.mu_num.specs.IndexedSums.{int_at}
use Rattle.qss_machine.specs.Slopes.{mode_fits}
use Rattle.mu_num.specs.ListedPlaces.{is_listed}
use Rattle.mu_num.specs.Limits.{bits_of_weight}

-- whether a row is before the row that was found, if any
abbrev pub comes_before : Option ℕ → ℕ → Bool
comes_before None row = true
comes_before (Some found) row = nat_lt row found

-- the absolute row sum of the row that was found exceeds its limit; no examined row before it has
-- one that does
pub record IsLeastPast (weights : List ℤ) (rows : List ℕ) (found : Option ℕ) : Type 0 where
  pub past : (row : ℕ) → found ≡ Some row → (row < length weights) × (exceeds bits_of_weight (int_at weights row) ≡ true)
  pub none_before : (row : ℕ) → is_listed rows row ≡ true → comes_before found row ≡ true → exceeds bits_of_weight (int_at weights row) ≡ false

-- the absolute row sum of a row, or a number above its limit if a coefficient in the current mode
-- exceeds its limit
abbrev pub IsWeighed : Machine → List ℤ → List ℤ → ℕ → ℤ → Type 0
IsWeighed m levels discretes row weight =
    MatchBool (mode_fits m.f (state_count m) (row_at m row) discretes) (weight ≡ weight_at m row levels discretes) (exceeds bits_of_weight weight ≡ true)
