-- Agreement of components with the values of a machine's variables.
use Rattle.std.specs.Prelude.{◌≡◌, ℕ, ◌+◌, ◌-◌, ◌<◌, ◌≤◌, true, List, map, length, ℤ, pos, ◌*ℤ◌}
use Rattle.std.specs.Prelude.{All, Option, Some, None, nat_lt, if◌then◌else◌}
use Rattle.qss_machine.specs.declared.machine_parts.Condition.{Condition}
use Rattle.qss_machine.specs.declared.compiled_machine.Machine.{Machine}
use Rattle.mu_num.specs.IndexedSums.{int_at}
use Rattle.qss_machine.specs.Machines.{state_count, discrete_count, level_unit, row_at}
use Rattle.qss_machine.specs.Handlers.{conditions}
use Rattle.qss_machine.specs.Readers.{row_reads}
use Rattle.qss_machine.specs.Ticks.{Snapshot}
use Rattle.qss_quant.specs.IntegratorLines.{Line, state_at}
use Rattle.qss_cross.specs.Crossing.{value_at}
use Rattle.qss_events.specs.Schedules.{slopes_of, condition_at, rising_tick}
use Rattle.qss_components.specs.declared.crossing_model.Input.{Input}
use Rattle.qss_components.specs.Integrators.{IsLineNext}
use Rattle.qss_components.specs.Functions.{FunctionState, sum_of}
use Rattle.qss_components.specs.Crossings.{Crossing, input_at, form_at, speed_by, IsCrossingNext}
use Rattle.qss_components.specs.Crossings.{entry_of}

-- the values of a machine's variables at a tick: states, their slopes per tick, levels, and
-- discrete values
pub record Values : Type 0 where
  pub states : List ℤ
  pub slopes : List ℤ
  pub levels : List ℤ
  pub discretes : List ℤ

-- the values in a snapshot
abbrev pub values_of : Machine → Snapshot → Values
values_of m w = record { states = w.states; slopes = slopes_of m w; levels = w.levels; discretes = w.discretes }

-- one value for each variable
pub record HasEach (m : Machine) (v : Values) : Type 0 where
  pub states : length v.states ≡ state_count m
  pub slopes : length v.slopes ≡ state_count m
  pub levels : length v.levels ≡ state_count m
  pub discretes : length v.discretes ≡ discrete_count m

-- the line of an integrator passes through the state at this tick, with its slope and level
pub record LineAgrees (tick : ℕ) (v : Values) (j : ℕ) (line : Line) : Type 0 where
  pub not_later : line.tick ≤ tick
  pub here : state_at line tick ≡ int_at v.states j
  pub own_slope : line.slope ≡ int_at v.slopes j
  pub own_level : line.level ≡ int_at v.levels j

-- a function belongs to its row and holds the values that the row reads; if it has nothing to send,
-- its sum is the slope of the state
pub record SummingAgrees (m : Machine) (tick : ℕ) (v : Values) (j : ℕ) (s : FunctionState) : Type 0 where
  pub own : s.row ≡ j
  pub not_later : s.tick ≤ tick
  pub as_many : (length s.levels ≡ state_count m) × (length s.discretes ≡ discrete_count m)
  pub levels : (i : ℕ) → i < state_count m → row_reads i (row_at m j) ≡ true → int_at s.levels i ≡ int_at v.levels i
  pub discretes : (g : ℕ) → g < discrete_count m → row_reads (state_count m + g) (row_at m j) ≡ true → int_at s.discretes g ≡ int_at v.discretes g
  pub own_sum : s.changed ≡ None → sum_of m s ≡ int_at v.slopes j

-- the value of a variable in units of a state, and its increment per tick
pub record Moving : Type 0 where
  pub at : ℤ
  pub speed : ℤ

-- the value and the increment of a state, or of a discrete variable, now or before the tick
abbrev pub moving_of : Machine → Values → ℕ → Moving
moving_of m v var =
    if nat_lt var (state_count m) then record { at = int_at v.states var; speed = int_at v.slopes var }
    else if nat_lt var (state_count m + discrete_count m) then record { at = int_at v.discretes (var - state_count m) *ℤ level_unit m; speed = pos 0 }
    else record { at = int_at v.discretes (var - (state_count m + discrete_count m)) *ℤ level_unit m; speed = pos 0 }

-- the line of an input passes through the value of its variable, with its increment
pub record InputAgrees (m : Machine) (tick : ℕ) (v : Values) (i : Input) : Type 0 where
  pub not_later : i.tick ≤ tick
  pub here : record { at = input_at tick i; speed = i.speed } ≡ moving_of m v i.var

-- a crossing belongs to its condition and holds the variables of its form, the form's value and its
-- increment per tick
pub record CrossingAgrees (m : Machine) (tick : ℕ) (v : Values) (place : ℕ) (condition : Condition) (c : Crossing) : Type 0 where
  pub own : c.place ≡ place
  pub own_rel : c.detector.rel ≡ condition.rel
  pub own_time : c.time ≡ condition.form.time
  pub own_constant : c.gamma ≡ condition.form.gamma
  pub entries : map entry_of c.inputs ≡ condition.form.entries
  pub not_later : c.detector.tick ≤ tick
  pub lines : All (InputAgrees m tick v) c.inputs
  pub here : value_at c.detector tick ≡ form_at m c.inputs c.time c.gamma tick
  pub own_speed : c.detector.speed ≡ speed_by m c.inputs c.time

-- components agree with values at a tick: a line and a function for each state, and a crossing for
-- each condition
pub record Agree (m : Machine) (tick : ℕ) (v : Values) (line : ℕ → Line) (s : ℕ → FunctionState) (c : ℕ → Crossing) : Type 0 where
  pub integrators : (j : ℕ) → j < state_count m → LineAgrees tick v j (line j)
  pub functions : (j : ℕ) → j < state_count m → SummingAgrees m tick v j (s j)
  pub crossings : (place : ℕ) → place < length (conditions m) → CrossingAgrees m tick v place (condition_at m place) (c place)

-- components represent a snapshot at a tick: they agree with it, and no function has a sum to send
pub record ComponentsRepresent (m : Machine) (tick : ℕ) (w : Snapshot) (line : ℕ → Line) (s : ℕ → FunctionState) (c : ℕ → Crossing) : Type 0 where
  pub agree : Agree m tick (values_of m w) line s c
  pub sent : (j : ℕ) → j < state_count m → (s j).changed ≡ None

-- the due ticks: one for each state, one for each condition, and the next tick if a handler made a
-- condition true; all are later
pub record AreNext (m : Machine) (tick : ℕ) (w : Snapshot) (line : ℕ → Line) (c : ℕ → Crossing) (due : ℕ → Option ℕ) : Type 0 where
  pub lines : (j : ℕ) → j < state_count m → IsLineNext m j (line j) (due j)
  pub crossings : (place : ℕ) → place < length (conditions m) → IsCrossingNext (c place).detector (due (state_count m + place))
  pub rising : due (state_count m + length (conditions m)) ≡ rising_tick tick w
  pub later : (place next : ℕ) → due place ≡ Some next → tick < next
