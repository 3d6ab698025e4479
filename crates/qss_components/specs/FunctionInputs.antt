-- The inputs of a function: the variables that its row reads, with their current values.
use Rattle.std.specs.Prelude.{◌≡◌, ℕ, ◌+◌, ◌<◌, List, map, ℤ, pos, All, ◌==◌, if◌then◌else◌}
use Rattle.std.specs.List.Sorted.{IsStrictlyIncreasing}
use Rattle.mu_num.specs.IndexedSums.{tabulate, sum_over}
use Rattle.mu_num.specs.ListedPlaces.{is_listed}
use Rattle.mu_num.specs.Limits.{IsLevel}
use Rattle.qss_machine.specs.declared.compiled_machine.Machine.{Machine}
use Rattle.qss_machine.specs.Machines.{state_count, discrete_count, row_at, row_coefficient}
use Rattle.qss_machine.specs.Readers.{row_reads}
use Rattle.qss_components.specs.declared.function_inputs.FunctionInput.{FunctionInput}

-- the variables of inputs
abbrev pub input_vars : List FunctionInput → List ℕ
input_vars inputs = map (λ input. input.var) inputs

-- the value of a variable, or 0 if it is not an input
abbrev pub input_value : List FunctionInput → ℕ → ℤ
input_value inputs var = sum_over (λ input. if input.var == var then input.value else pos 0) inputs

-- one level for each state, which is 0 if the state is not an input
abbrev pub input_levels : Machine → List FunctionInput → List ℤ
input_levels m inputs = tabulate (state_count m) (input_value inputs)

-- one value for each discrete variable, which is 0 if the variable is not an input
abbrev pub input_discretes : Machine → List FunctionInput → List ℤ
input_discretes m inputs = tabulate (discrete_count m) (λ g. input_value inputs (state_count m + g))

-- values within the limits, one for each variable, sorted by variable
pub record AreValued (inputs : List FunctionInput) : Type 0 where
  pub rising : IsStrictlyIncreasing (input_vars inputs)
  pub small : All (λ input. IsLevel input.value) inputs

-- the inputs of a row: exactly the variables that it reads, with their coefficients
pub record AreInputs (m : Machine) (row : ℕ) (inputs : List FunctionInput) : Type 0 where
  pub valued : AreValued inputs
  pub known : All (λ input. input.var < state_count m + discrete_count m) inputs
  pub reads : (var : ℕ) → is_listed (input_vars inputs) var ≡ row_reads var (row_at m row)
  pub own : All (λ input. input.coef ≡ row_coefficient m row input.var) inputs
