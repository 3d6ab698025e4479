-- Defines marks of the sums of rows that are to be computed anew.
use Rattle.std.specs.Prelude.{◌≡◌, ℕ, true, List, [], ℤ, pos, flat_map, slice_index_or}
use Rattle.mu_num.specs.IndexedSums.{int_at}
use Rattle.mu_num.specs.ListedPlaces.{is_listed}
use Rattle.mu_num.specs.Writes.{IsWritten}
use Rattle.qss_machine.specs.declared.compiled_machine.Machine.{Machine}
use Rattle.qss_machine.specs.Machines.{slope_at}
use Rattle.qss_machine.specs.Readers.{reading_rows}
use Rattle.qss_states.specs.declared.sum_marks.TheConstants.{SUM_MARK}

-- the number is the slope of a state at levels and discrete values
abbrev pub IsSlopeAt : Machine → List ℤ → List ℤ → ℕ → ℤ → Type 0
IsSlopeAt m levels discretes j slope = slope ≡ slope_at m j levels discretes

-- the rows that are listed for these variables, where each variable has a list of rows
abbrev pub listed_rows : List (List ℕ) → List ℕ → List ℕ
listed_rows lists variables = flat_map (λ var. slice_index_or lists var []) variables

-- the sums of these rows were marked
abbrev pub AreMarked : List ℕ → List ℤ → List ℤ → Type 0
AreMarked rows old new = IsWritten (pos 0) (λ row sum. sum ≡ SUM_MARK) rows old new

-- the sum of each of these rows has a property, unless the sum is marked
pub record AreMarkedOr (Has : ℕ → ℤ → Type 0) (rows : List ℕ) (sums : List ℤ) : Type 0 where
  pub known : (row : ℕ) → is_listed rows row ≡ true → (int_at sums row ≡ SUM_MARK → ⊥) →
      Has row (int_at sums row)

-- the sum of each row that reads one of these variables has a property, unless the sum is marked
abbrev pub AreReadersMarkedOr : (ℕ → ℤ → Type 0) → Machine → List ℕ → List ℤ → Type 0
AreReadersMarkedOr Has m variables sums =
    AreMarkedOr Has (flat_map (reading_rows m) variables) sums

-- the sums of the rows that read one of these variables have a property; all other sums are
-- unchanged
abbrev pub AreReaderSums : (ℕ → ℤ → Type 0) → Machine → List ℕ → List ℤ → List ℤ → Type 0
AreReaderSums Has m variables old new =
    IsWritten (pos 0) Has (flat_map (reading_rows m) variables) old new
