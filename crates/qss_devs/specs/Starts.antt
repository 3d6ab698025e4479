-- The components of a coupled model at the start.
use Rattle.std.specs.Prelude.{◌≡◌, ℕ, ◌+◌, ◌-◌, ◌<◌, List, map, ℤ, pos, All, slice_index_or, None}
use Rattle.std.specs.Prelude.{nat_lt, if◌then◌else◌}
use Rattle.std.specs.List.Sorted.{IsStrictlyIncreasing}
use Rattle.qss_machine.specs.declared.machine_parts.Condition.{Condition}
use Rattle.qss_machine.specs.declared.machine_parts.Entry.{Entry}
use Rattle.qss_machine.specs.declared.compiled_machine.Machine.{Machine}
use Rattle.mu_num.specs.IndexedSums.{int_at, tabulate}
use Rattle.mu_num.specs.ListedPlaces.{is_listed}
use Rattle.qss_machine.specs.Machines.{state_count, discrete_count, row_at, row_coefficient}
use Rattle.qss_machine.specs.Readers.{row_reads}
use Rattle.qss_machine.specs.Ticks.{start_snapshot}
use Rattle.qss_quant.specs.declared.quantizer.Quantizer.{Quantizer}
use Rattle.qss_quant.specs.IntegratorLines.{Line}
use Rattle.qss_events.specs.Schedules.{condition_at}
use Rattle.qss_components.specs.declared.crossing_model.CrossingModel.{CrossingModel}
use Rattle.qss_components.specs.declared.function_model.FunctionModel.{FunctionModel}
use Rattle.qss_components.specs.declared.crossing_model.Input.{Input}
use Rattle.qss_components.specs.declared.function_inputs.FunctionInput.{FunctionInput}
use Rattle.qss_components.specs.declared.integrator_model.IntegratorModel.{IntegratorModel}
use Rattle.qss_components.specs.FunctionInputs.{input_vars}
use Rattle.qss_components.specs.Functions.{FunctionState}
use Rattle.qss_components.specs.Crossings.{Crossing, form_at, speed_by}
use Rattle.qss_components.specs.ComponentModels.{function_state_of, crossing_of}
use Rattle.qss_components.specs.Agreement.{Values, Moving, values_of, moving_of}
use Rattle.qss_devs.specs.declared.coupled_start.StartValues.{StartValues}

-- the values of a machine's variables at the start
abbrev pub start_values : Machine → Values
start_values m = values_of m (start_snapshot m)

-- the values in lists
abbrev pub values_in : StartValues → Values
values_in v = record { states = v.states.items; slopes = v.slopes.items; levels = v.levels.items; discretes = v.discretes.items }

-- an entry of a condition's form
abbrev pub entry_at : Condition → ℕ → Entry
entry_at condition k = slice_index_or condition.form.entries k (record { var = 0; coef = pos 0 })

-- the line of a state from tick 0
abbrev pub first_line : Values → ℕ → Line
first_line v j = record { tick = 0; x = int_at v.states j; slope = int_at v.slopes j; level = int_at v.levels j }

-- the levels of the states that a row reads, and 0 for the other states
abbrev pub read_levels : Machine → ℕ → List ℤ → List ℤ
read_levels m j levels =
    tabulate (state_count m) (λ i. if row_reads i (row_at m j) then int_at levels i else pos 0)

-- the values of the discrete variables that a row reads, and 0 for the others
abbrev pub read_discretes : Machine → ℕ → List ℤ → List ℤ
read_discretes m j discretes =
    tabulate (discrete_count m)
    (λ g. if row_reads (state_count m + g) (row_at m j) then int_at discretes g else pos 0)

-- a function with the levels and discrete values that its row reads, and nothing to send
abbrev pub first_summing : Machine → Values → ℕ → FunctionState
first_summing m v j = record {
  row = j;
  tick = 0;
  levels = read_levels m j v.levels;
  discretes = read_discretes m j v.discretes;
  changed = None;
}

-- the level of a state, or the value of a discrete variable
abbrev pub level_or_value : Machine → Values → ℕ → ℤ
level_or_value m v var =
    if nat_lt var (state_count m) then int_at v.levels var
    else int_at v.discretes (var - state_count m)

-- the inputs of a row at the start, restricted to variables with numbers below `past`
pub record AreFirstInputs (m : Machine) (past j : ℕ) (inputs : List FunctionInput) : Type 0 where
  pub rising : IsStrictlyIncreasing (input_vars inputs)
  pub below : All (λ input. input.var < past) inputs
  pub reads : (var : ℕ) → var < past
      → is_listed (input_vars inputs) var ≡ row_reads var (row_at m j)
  pub own : All (λ input. input.coef ≡ row_coefficient m j input.var) inputs
  pub values : All (λ input. input.value ≡ level_or_value m (start_values m) input.var) inputs

-- an entry with the line of its variable from tick 0
abbrev pub first_input : Machine → Values → Entry → Input
first_input m v entry = let moving : Moving = moving_of m v entry.var in record { var = entry.var; coef = entry.coef; tick = 0; at = moving.at; speed = moving.speed }

-- the crossing of a condition from tick 0
abbrev pub first_crossing : Machine → Values → ℕ → Condition → Crossing
first_crossing m v place condition =
    let inputs : List Input = map (first_input m v) condition.form.entries in
    record {
      place = place;
      detector = record {
        rel = condition.rel;
        tick = 0;
        value = form_at m inputs condition.form.time condition.form.gamma 0;
        speed = speed_by m inputs condition.form.time;
      };
      inputs = inputs;
      time = condition.form.time;
      gamma = condition.form.gamma;
    }

-- the integrator of a state at the start
pub record IsFirstIntegrator {X : Type 0} {g : _} (m : Machine) (q : Quantizer X g) (j : ℕ) (i : IntegratorModel X g) : Type 0 where
  pub machine : i.machine.value ≡ m
  pub quantizer : i.quantizer.value ≡ q
  pub own : i.var ≡ j
  pub line : i.line ≡ first_line (start_values m) j

-- the function of a row at the start
pub record IsFirstFunction (m : Machine) (j : ℕ) (s : FunctionModel) : Type 0 where
  pub machine : s.machine.value ≡ m
  pub summing : function_state_of s ≡ first_summing m (start_values m) j

-- the crossing of the condition with this number at the start
pub record IsFirstCrossing (m : Machine) (place : ℕ) (c : CrossingModel) : Type 0 where
  pub machine : c.machine.value ≡ m
  pub crossing : crossing_of c ≡ first_crossing m (start_values m) place (condition_at m place)
