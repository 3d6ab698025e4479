-- A static function: the right side of a state at its inputs, and its transitions.
use Rattle.std.specs.Prelude.{ℕ, ◌+◌, ◌-◌, ◌^◌, List, ℤ, pos, slice_set, Option, Some, None}
use Rattle.std.specs.Prelude.{if◌then◌else◌}
use Rattle.std.specs.Option.{option_or}
use Rattle.std.specs.Ordering.{int_eq}
use Rattle.qss_machine.specs.declared.compiled_machine.Machine.{Machine}
use Rattle.qss_machine.specs.Machines.{state_count, row_at, slope_at}
use Rattle.qss_machine.specs.Readers.{row_reads}
use Rattle.qss_machine.specs.Ticks.{exceeds_row_limits}
use Rattle.qss_components.specs.declared.atomic.Message.{Message}
use Rattle.qss_components.specs.declared.atomic.Message.TheVariants.{Slope, State, Level, Discrete}
use Rattle.qss_components.specs.declared.atomic.Message.TheVariants.{Truth}

-- the number of the row, its tick, its inputs, and the tick of the first change of its sum since
-- the last message
pub record FunctionState : Type 0 where
  pub row : ℕ
  pub tick : ℕ
  pub levels : List ℤ
  pub discretes : List ℤ
  pub changed : Option ℕ

-- its sum: the slope of its row, or one more than the limit of slopes if the row exceeds its limits
abbrev pub sum_at : Machine → ℕ → List ℤ → List ℤ → ℤ
sum_at m row levels discretes = if exceeds_row_limits m levels discretes (row_at m row) then pos (2 ^ 88 + 1) else slope_at m row levels discretes

abbrev pub sum_of : Machine → FunctionState → ℤ
sum_of m s = sum_at m s.row s.levels s.discretes

-- the function after it sent its sum at a tick
abbrev pub summing_sent : FunctionState → ℕ → FunctionState
summing_sent s tick = record s { tick = tick; changed = None }

-- the tick of an earlier change, else this tick if the sum changes
abbrev pub change_by : Option ℕ → ℕ → ℤ → ℤ → Option ℕ
change_by changed tick before after = option_or changed (if int_eq before after then None else Some tick)

-- the function with these inputs from a tick on
abbrev pub summing_with : Machine → FunctionState → ℕ → List ℤ → List ℤ → FunctionState
summing_with m s tick levels discretes = record s {
  tick = tick;
  levels = levels;
  discretes = discretes;
  changed = change_by s.changed tick (sum_of m s) (sum_at m s.row levels discretes);
}

-- the levels of a function after a message; only a level that its row reads can change
abbrev pub levels_after_message : Machine → ℕ → List ℤ → Message → List ℤ
levels_after_message m row levels (Level var level) =
    if row_reads var (row_at m row) then slice_set levels var level else levels
levels_after_message m row levels (Discrete var value) = levels
levels_after_message m row levels (Slope var slope) = levels
levels_after_message m row levels (State var state) = levels
levels_after_message m row levels (Truth condition now) = levels

-- the discrete values of a function after a message; only a value that its row reads can change;
-- discrete variables are numbered after the states
abbrev pub discretes_after_message : Machine → ℕ → List ℤ → Message → List ℤ
discretes_after_message m row discretes (Discrete var value) =
    if row_reads var (row_at m row) then slice_set discretes (var - state_count m) value
    else discretes
discretes_after_message m row discretes (Level var level) = discretes
discretes_after_message m row discretes (Slope var slope) = discretes
discretes_after_message m row discretes (State var state) = discretes
discretes_after_message m row discretes (Truth condition now) = discretes

-- the function after it received a message at a tick
abbrev pub function_after_message : Machine → FunctionState → ℕ → Message → FunctionState
function_after_message m s tick message =
    summing_with m s tick (levels_after_message m s.row s.levels message)
    (discretes_after_message m s.row s.discretes message)
