-- Defines membership in lists of indices, flags by index, and changes at listed indices only.
use Rattle.std.specs.Prelude.{◌≡◌, ℕ, ◌<◌, Bool, false, List, length, slice_index_or, ℤ, All, ◌==◌}
use Rattle.std.specs.List.{list_any}
use Rattle.std.specs.List.Sorted.{IsStrictlyIncreasing}
use Rattle.mu_num.specs.IndexedSums.{int_at}

-- whether an index is in a list
abbrev pub is_listed : List ℕ → ℕ → Bool
is_listed numbers j = list_any (λ i. i == j) numbers

-- strictly increasing indices below n
pub record AreRisingBelow (n : ℕ) (numbers : List ℕ) : Type 0 where
  pub rising : IsStrictlyIncreasing numbers
  pub below : All (λ j. j < n) numbers

-- two lists of levels that differ only at the indices of the moved states
pub record DiffersOnlyAt (moved : List ℕ) (old new : List ℤ) : Type 0 where
  pub as_many : length new ≡ length old
  pub others : (j : ℕ) → is_listed moved j ≡ false → int_at new j ≡ int_at old j

-- the flag at an index, false after the end of the list
abbrev pub flag_at : List Bool → ℕ → Bool
flag_at flags place = slice_index_or flags place false
