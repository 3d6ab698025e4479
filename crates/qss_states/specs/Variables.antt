-- Defines indices of variables, rows that read them, and values within their limits.
use Rattle.std.specs.Prelude.{◌≡◌, ℕ, ◌+◌, ◌<◌, ◌≤◌, false, List, ℤ, All, length, Bool}
use Rattle.std.specs.List.{list_any}
use Rattle.qss_machine.specs.declared.compiled_machine.Machine.{Machine}
use Rattle.mu_num.specs.IndexedSums.{int_at}
use Rattle.qss_machine.specs.Machines.{state_count, discrete_count, row_at}
use Rattle.qss_machine.specs.Readers.{row_reads}
use Rattle.mu_num.specs.ListedPlaces.{is_listed}
use Rattle.mu_num.specs.Limits.{AreLevels, AreStates, AreSlopes}

-- indices of states and discrete variables
abbrev pub AreVariablesOf : Machine → List ℕ → Type 0
AreVariablesOf m vars = All (λ var. var < state_count m + discrete_count m) vars

-- indices of discrete variables, counted after the states
abbrev pub AreDiscretes : Machine → List ℕ → Type 0
AreDiscretes m assigned = All (λ var. (state_count m ≤ var) × (var < state_count m + discrete_count m)) assigned

-- discrete values that differ only for the assigned variables
abbrev pub AreAssigned : Machine → List ℕ → List ℤ → List ℤ → Type 0
AreAssigned m assigned old new = (g : ℕ) → g < discrete_count m → is_listed assigned (state_count m + g) ≡ false → int_at new g ≡ int_at old g

-- indices of assigned discrete variables: the others have their values from before, all of which
-- were within the limit
pub record AreAssignedFrom (m : Machine) (assigned : List ℕ) (before after : List ℤ) : Type 0 where
  pub known : AreDiscretes m assigned
  pub others : AreAssigned m assigned before after
  pub small_before : AreLevels before

-- whether the row of a state reads one of the moved states
abbrev pub reads_moved : Machine → List ℕ → ℕ → Bool
reads_moved m moved j = list_any (λ i. row_reads i (row_at m j)) moved

-- a value of each state and of each discrete variable, within the limits
pub record AreWithin (m : Machine) (x d : List ℤ) : Type 0 where
  pub states : length x ≡ state_count m
  pub discretes : length d ≡ discrete_count m
  pub small_states : AreStates x
  pub small_discretes : AreLevels d

-- a level of each state and a value of each discrete variable, within the limit
pub record AreLevelsOf (m : Machine) (l d : List ℤ) : Type 0 where
  pub levels : length l ≡ state_count m
  pub discretes : length d ≡ discrete_count m
  pub small_levels : AreLevels l
  pub small_discretes : AreLevels d

-- a slope of each state, within the limit
pub record AreSlopesOf (m : Machine) (slopes : List ℤ) : Type 0 where
  pub as_many : length slopes ≡ state_count m
  pub small : AreSlopes slopes
