-- Theorems on messages: components that receive the messages of a tick represent its snapshot.
use Rattle.std.specs.Prelude.{◌≡◌, ◌≢◌, ℕ, ◌+◌, ◌-◌, ◌<◌, ◌≤◌, Bool, false, ◌||◌, ◌==◌, slice_set}
use Rattle.std.specs.Prelude.{List, [], fold, length, ℤ, pos, ◌+ℤ◌, ◌*ℤ◌, Option, Some, None}
use Rattle.std.specs.Prelude.{position, if◌then◌else◌}
use Rattle.qss_machine.specs.declared.machine_parts.Condition.{Condition}
use Rattle.qss_machine.specs.declared.machine_parts.Row.{Row}
use Rattle.qss_machine.specs.declared.machine_parts.RowKind.{RowKind}
use Rattle.qss_machine.specs.declared.machine_parts.RowKind.TheVariants as kind
use Rattle.qss_machine.specs.declared.compiled_machine.Machine.{Machine}
use Rattle.mu_num.specs.IndexedSums.{int_at, tabulate}
use Rattle.mu_num.specs.Limits.{tick_limit, IsSlope}
use Rattle.qss_machine.specs.Machines.{state_count, discrete_count, row_at, truth}
use Rattle.qss_machine.specs.Handlers.{conditions, truths, run_clauses}
use Rattle.qss_machine.specs.Ticks.{Snapshot, exceeds_row_limits}
use Rattle.qss_machine.specs.Readers.{row_reads, condition_reads}
use Rattle.qss_quant.specs.declared.quantizer.Rule.{Rule}
use Rattle.qss_quant.specs.IntegratorLines.{Line, state_at}
use Rattle.qss_cross.specs.Crossing.{holds_at}
use Rattle.qss_events.specs.EventFreeTicks.{MayFollowTick, snapshot_after}
use Rattle.qss_events.specs.Schedules.{condition_at, IsScheduleOf}
use Rattle.qss_components.specs.declared.atomic.Message.{Message}
use Rattle.qss_components.specs.declared.atomic.Message.TheVariants.{Slope, State, Level, Discrete}
use Rattle.qss_components.specs.declared.atomic.Message.TheVariants.{Truth}
use Rattle.qss_components.specs.Messages.{IsMessage}
use Rattle.qss_components.specs.Integrators.{SendsLevel, line_after_message}
use Rattle.qss_components.specs.Functions.{FunctionState, sum_of, summing_sent}
use Rattle.qss_components.specs.Functions.{function_after_message}
use Rattle.qss_components.specs.Crossings.{Crossing, crossing_after_message}
use Rattle.qss_components.specs.Crossings.{crossing_after_transition}
use Rattle.qss_components.specs.Agreement.{Values, HasEach, Agree, ComponentsRepresent, AreNext}

-- the values after a message
abbrev pub values_after_message : Machine → Values → Message → Values
values_after_message m v (Slope var slope) = record v { slopes = slice_set v.slopes var slope }
values_after_message m v (State var state) = record v { states = slice_set v.states var state }
values_after_message m v (Level var level) = record v { levels = slice_set v.levels var level }
values_after_message m v (Discrete var value) = record v { discretes = slice_set v.discretes (var - state_count m) value }
values_after_message m v (Truth condition now) = v

-- whether a message is sent to the integrator of a state; a level is not, because the integrator
-- holds it already
abbrev pub goes_to_integrator : ℕ → Message → Bool
goes_to_integrator j (Slope var slope) = var == j
goes_to_integrator j (State var state) = var == j
goes_to_integrator j (Level var level) = false
goes_to_integrator j (Discrete var value) = false
goes_to_integrator j (Truth condition now) = false

-- whether a message is sent to the function of a row
abbrev pub goes_to_function : Machine → ℕ → Message → Bool
goes_to_function m j (Slope var slope) = false
goes_to_function m j (State var state) = false
goes_to_function m j (Level var level) = row_reads var (row_at m j)
goes_to_function m j (Discrete var value) = row_reads var (row_at m j)
goes_to_function m j (Truth condition now) = false

-- whether a message is sent to the crossing of a condition
abbrev pub goes_to_crossing : Machine → Condition → Message → Bool
goes_to_crossing m condition (Slope var slope) = condition_reads var condition
goes_to_crossing m condition (State var state) = condition_reads var condition
goes_to_crossing m condition (Level var level) = false
goes_to_crossing m condition (Discrete var value) = condition_reads var condition || condition_reads (var + discrete_count m) condition
goes_to_crossing m condition (Truth place now) = false

-- the components after a message was sent to its receivers
abbrev pub lines_given : ℕ → Message → (ℕ → Line) → ℕ → Line
lines_given tick message line j = if goes_to_integrator j message then line_after_message j (line j) tick message else line j

abbrev pub functions_given : Machine → ℕ → Message → (ℕ → FunctionState) → ℕ → FunctionState
functions_given m tick message s j = if goes_to_function m j message then function_after_message m (s j) tick message else s j

abbrev pub crossings_given : Machine → ℕ → Message → (ℕ → Crossing) → ℕ → Crossing
crossings_given m tick message c place =
    if goes_to_crossing m (condition_at m place) message then crossing_after_message m (c place) tick message else c place

-- the values some ticks later, at constant slopes, levels and discrete values
abbrev pub values_after : Machine → Values → ℕ → Values
values_after m v ticks = record v { states = tabulate (state_count m) (λ j. int_at v.states j +ℤ pos ticks *ℤ int_at v.slopes j) }

-- components agree with the moved values without a message
abbrev pub AgreementLasts : Type 0
AgreementLasts =
    (m : Machine) (tick ticks : ℕ) (v : Values) (line : ℕ → Line) (s : ℕ → FunctionState) (c : ℕ → Crossing) →
    Agree m tick v line s c → Agree m (tick + ticks) (values_after m v ticks) line s c

-- a message keeps agreement; the function or integrator that sends it has made its own transition
pub record MessagesKeepAgreement : Type 0 where
  pub slope : (m : Machine) (tick var : ℕ) (v : Values) (line : ℕ → Line) (s sent : ℕ → FunctionState) (c : ℕ → Crossing) → HasEach m v → var < state_count m →
      Agree m tick v line s c → ((j : ℕ) → j ≢ var → sent j ≡ s j) → sent var ≡ summing_sent (s var) tick →
      let told = Slope var (sum_of m (s var)) in
      Agree m tick (values_after_message m v told) (lines_given tick told line) sent (crossings_given m tick told c)
  pub state : (m : Machine) (tick var : ℕ) (state : ℤ) (v : Values) (line : ℕ → Line) (s : ℕ → FunctionState) (c : ℕ → Crossing) → HasEach m v → var < state_count m →
      Agree m tick v line s c →
      let told = State var state in
      Agree m tick (values_after_message m v told) (lines_given tick told line) s (crossings_given m tick told c)
  pub discrete : (m : Machine) (tick var : ℕ) (value : ℤ) (v : Values) (line : ℕ → Line) (s : ℕ → FunctionState) (c : ℕ → Crossing) → HasEach m v →
      IsMessage m (Discrete var value) → Agree m tick v line s c →
      let told = Discrete var value in
      Agree m tick (values_after_message m v told) line (functions_given m tick told s) (crossings_given m tick told c)
  pub level : (m : Machine) (tick var : ℕ) (level : ℤ) (v : Values) (line taken : ℕ → Line) (s : ℕ → FunctionState) (c : ℕ → Crossing) → HasEach m v → var < state_count m →
      Agree m tick v line s c → ((j : ℕ) → j ≢ var → taken j ≡ line j) →
      taken var ≡ record { tick = tick; x = state_at (line var) tick; slope = (line var).slope; level = level } →
      let told = Level var level in
      Agree m tick (values_after_message m v told) taken (functions_given m tick told s) c
  -- a truth value has no receiver; the crossing that sent it has made its transition
  pub truth : (m : Machine) (tick place : ℕ) (v : Values) (line : ℕ → Line) (s : ℕ → FunctionState) (c turned : ℕ → Crossing) →
      Agree m tick v line s c → ((k : ℕ) → k ≢ place → turned k ≡ c k) → turned place ≡ crossing_after_transition (c place) tick → Agree m tick v line s turned

-- an integrator with a named rule sends exactly one message, without assumptions on the rule's
-- function
abbrev pub NamedSendsOne : Type 0
NamedSendsOne =
    (m : Machine) (rule : Rule) (var : ℕ) (line : Line) (tick : ℕ) (a b : Message) →
    SendsLevel m (Some rule) (λ state old unit new. Unit {0}) var line tick a → SendsLevel m (Some rule) (λ state old unit new. Unit {0}) var line tick b → a ≡ b

-- components that represent a snapshot, with their due ticks, give lines, detectors and due ticks
-- that represent it
abbrev pub ComponentsStand : Type 0
ComponentsStand =
    (m : Machine) (tick : ℕ) (w : Snapshot) (line : ℕ → Line) (s : ℕ → FunctionState) (c : ℕ → Crossing) (due : ℕ → Option ℕ) →
    tick ≤ tick_limit → MayFollowTick m w → length w.states ≡ state_count m → length w.discretes ≡ discrete_count m → w.after_handlers ≡ truths m w.states w.discretes tick →
    ComponentsRepresent m tick w line s c → AreNext m tick w line c due → IsScheduleOf m tick w line (λ place. (c place).detector) due

-- components that agree with a snapshot represent it if no function has a sum to send and each sum
-- is within the limit of slopes; then no row exceeds its limits
abbrev pub SettledStand : Type 0
SettledStand =
    (m : Machine) (tick : ℕ) (w : Snapshot) (slopes : List ℤ) (line : ℕ → Line) (s : ℕ → FunctionState) (c : ℕ → Crossing) →
    HasEach m (record { states = w.states; slopes = slopes; levels = w.levels; discretes = w.discretes }) →
    Agree m tick (record { states = w.states; slopes = slopes; levels = w.levels; discretes = w.discretes }) line s c →
    ((j : ℕ) → j < state_count m → (s j).changed ≡ None) → ((j : ℕ) → j < state_count m → IsSlope (int_at slopes j)) →
    ComponentsRepresent m tick w line s c × (position (exceeds_row_limits m w.levels w.discretes) m.rows ≡ None)

-- components that represent a snapshot represent the moved snapshot some ticks later
abbrev pub ComponentsMove : Type 0
ComponentsMove =
    (m : Machine) (tick ticks : ℕ) (w : Snapshot) (line : ℕ → Line) (s : ℕ → FunctionState) (c : ℕ → Crossing) →
    ComponentsRepresent m tick w line s c → ComponentsRepresent m (tick + ticks) (snapshot_after m w ticks) line s c

-- a crossing is true exactly if its condition holds
abbrev pub CrossingsTell : Type 0
CrossingsTell =
    (m : Machine) (tick place : ℕ) (w : Snapshot) (line : ℕ → Line) (s : ℕ → FunctionState) (c : ℕ → Crossing) →
    length w.states ≡ state_count m → length w.discretes ≡ discrete_count m → place < length (conditions m) → ComponentsRepresent m tick w line s c →
    holds_at (c place).detector tick ≡ truth m (condition_at m place) w.states w.discretes tick

-- the values after a row of this kind: a reinitialized state, or an assigned discrete variable
abbrev pub values_after_row : Machine → Values → RowKind → Row → Values
values_after_row m v kind.Start row = v
values_after_row m v (kind.When clause branch) row = v
values_after_row m v kind.Set row = values_after_message m v (Discrete row.var row.level)
values_after_row m v kind.Reinit row = values_after_message m v (State row.var row.state)
values_after_row m v kind.Level row = v
values_after_row m v kind.End row = v
values_after_row m v kind.Overflow row = v

-- the values after several rows, one after another
abbrev pub values_after_rows : Machine → Values → List Row → Values
values_after_rows m v rows = fold (λ values row. values_after_row m values row.kind row) v rows

-- the rows of handlers list the effects of the handlers
abbrev pub RowsTellHandlers : Type 0
RowsTellHandlers =
    (m : Machine) (tick : ℕ) (v : Values) (over : Option ℕ) (due : List Bool) →
    let h = run_clauses m tick v.discretes 0 (record { states = v.states; discretes = v.discretes; rows = []; overflow = over }) m.clauses due in
    values_after_rows m v h.rows ≡ record v { states = h.states; discretes = h.discretes }
