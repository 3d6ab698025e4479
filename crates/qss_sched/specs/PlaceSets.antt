-- Defines sets of indices.
use Rattle.std.specs.Prelude.{◌≡◌, ℕ, ◌≤◌, Bool, List, length, sum_by, if◌then◌else◌}
use Rattle.mu_num.specs.ListedPlaces.{flag_at, is_listed}

-- the indices of a set, in the order of insertion, and the count below which they are
pub record PlaceList : Type 0 where
  pub places : List ℕ
  pub count : ℕ

-- the number of flags that are set
abbrev pub set_count : List Bool → ℕ
set_count flags = sum_by (λ flag. if flag then 1 else 0) flags

-- the listed indices are those whose flags are set, each listed once; the capacity is enough for
-- all
pub record IsPlaceSet (listed : List ℕ) (among : List Bool) (room : ℕ) : Type 0 where
  pub own : (place : ℕ) → is_listed listed place ≡ flag_at among place
  pub few : length listed ≤ set_count among
  pub all : length among ≤ room
