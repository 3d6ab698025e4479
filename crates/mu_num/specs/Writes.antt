-- Defines lists that are written at some indices.
use Rattle.std.specs.Prelude.{◌≡◌, ℕ, ◌<◌, Bool, true, false, List, length, slice_index_or, Option, Some, None}
use Rattle.mu_num.specs.ListedPlaces.{is_listed}

-- at these indices the new list has elements with a property, and elsewhere the old elements; `d`
-- is the default past the end
pub record IsWritten {X : Type 0} (d : X) (Has : ℕ → X → Type 0) (places : List ℕ) (old new : List X) : Type 0 where
  pub as_many : length new ≡ length old
  pub each : (place : ℕ) → is_listed places place ≡ true → Has place (slice_index_or new place d)
  pub others : (place : ℕ) → is_listed places place ≡ false → slice_index_or new place d ≡ slice_index_or old place d

-- the least of these indices that satisfies a test, if any
abbrev pub IsFirstOf : (ℕ → Bool) → List ℕ → Option ℕ → Type 0
IsFirstOf test places None = (place : ℕ) → is_listed places place ≡ true → test place ≡ false
IsFirstOf test places (Some first) =
    (is_listed places first ≡ true) × (test first ≡ true) × ((place : ℕ) → place < first → is_listed places place ≡ true → test place ≡ false)
