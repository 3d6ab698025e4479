-- The components of a machine by their numbers, and the ticks at which all may receive a message.
use Rattle.std.specs.Prelude.{◌≡◌, ℕ, ◌<◌, ◌≤◌, List, [], length, map, All, pos, Option, Some, None}
use Rattle.std.specs.Prelude.{slice_index_or, true, false}
use Rattle.mu_num.specs.Limits.{tick_limit}
use Rattle.mu_num.specs.ListedPlaces.{is_listed}
use Rattle.qss_machine.specs.declared.compiled_machine.Machine.{Machine}
use Rattle.qss_machine.specs.Machines.{state_count}
use Rattle.qss_machine.specs.Handlers.{conditions}
use Rattle.qss_machine.specs.Readers.{uses_of}
use Rattle.qss_quant.specs.declared.quantizer.Rule.{Rule}
use Rattle.qss_quant.specs.IntegratorLines.{Line}
use Rattle.qss_events.specs.Schedules.{no_line, no_detector}
use Rattle.qss_components.specs.declared.integrator_model.IntegratorModel.{IntegratorModel}
use Rattle.qss_components.specs.declared.atomic.Message.{Message}
use Rattle.qss_components.specs.declared.crossing_model.CrossingModel.{CrossingModel}
use Rattle.qss_components.specs.Messages.{IsTimely}
use Rattle.qss_components.specs.Integrators.{IsLineNext}
use Rattle.qss_components.specs.Functions.{FunctionState}
use Rattle.qss_components.specs.Crossings.{Crossing, IsCrossingNext, IsRead, AreSmallAt}
use Rattle.qss_components.specs.ComponentModels.{function_state_of, crossing_of}
use Rattle.qss_components.specs.ComponentTheorems.{lines_given, functions_given, crossings_given}
use Rattle.qss_devs.specs.declared.coupled_messages.Components.{Components}

-- default values for functions and crossings
abbrev pub no_summing : FunctionState
no_summing = record { row = 0; tick = 0; levels = []; discretes = []; changed = None }

abbrev pub no_crossing : Crossing
no_crossing = record { place = 0; detector = no_detector; inputs = []; time = pos 0; gamma = pos 0 }

-- the line of a state's integrator
abbrev pub line_at : {X : Type 0} {g : _} → Components X g → ℕ → Line
line_at {X} {g} parts j = slice_index_or (map (λ i. i.line) parts.integrators.items) j no_line

-- the function of a state's row
abbrev pub function_state_at : {X : Type 0} {g : _} → Components X g → ℕ → FunctionState
function_state_at {X} {g} parts j = slice_index_or (map function_state_of parts.functions.items) j no_summing

-- the crossing of a condition
abbrev pub crossing_at : {X : Type 0} {g : _} → Components X g → ℕ → Crossing
crossing_at {X} {g} parts place = slice_index_or (map crossing_of parts.crossings.items) place no_crossing

-- an integrator of a state of the machine
pub record IsIntegratorOf {X : Type 0} {g : _} (m : Machine) (j : ℕ) (i : IntegratorModel X g) : Type 0 where
  pub machine : i.machine.value ≡ m
  pub own : i.var ≡ j

-- the components of a machine: an integrator and a function for each state, a crossing for each
-- condition, and the readers of each variable
pub record AreComponents {X : Type 0} {g : _} (m : Machine) (parts : Components X g) : Type 0 where
  pub integrators : length parts.integrators.items ≡ state_count m
  pub functions : length parts.functions.items ≡ state_count m
  pub crossings : length parts.crossings.items ≡ length (conditions m)
  pub own_integrators : (j : ℕ) (d : IntegratorModel X g) → j < length parts.integrators.items → IsIntegratorOf m j (slice_index_or parts.integrators.items j d)
  pub own_functions : All (λ s. s.machine.value ≡ m) parts.functions.items
  pub own_crossings : All (λ c. c.machine.value ≡ m) parts.crossings.items
  pub uses : parts.uses ≡ uses_of m

-- the rules of all integrators have this name
abbrev pub AreRuled : {X : Type 0} {g : _} → Option Rule → Components X g → Type 0
AreRuled {X} {g} name parts = All (λ i. i.quantizer.value.name ≡ name) parts.integrators.items

-- a function may receive a message at a tick: a change that it has not sent occurred at this tick
pub record IsSummingReady (tick : ℕ) (s : FunctionState) : Type 0 where
  pub not_later : s.tick ≤ tick
  pub now : (next : ℕ) → s.changed ≡ Some next → next ≡ tick

-- a crossing may receive a message at a tick: it is not due by then, and its states are within
-- their limits
pub record IsCrossingReady (m : Machine) (tick : ℕ) (c : Crossing) : Type 0 where
  pub not_later : c.detector.tick ≤ tick
  pub later : (next : ℕ) → IsCrossingNext c.detector (Some next) → tick < next
  pub small : AreSmallAt m c.inputs tick

-- the components of a machine, which may receive messages at a tick: conditions were read there,
-- and no level or sum is overdue
pub record AreReady {X : Type 0} {g : _} (m : Machine) (tick : ℕ) (all : Components X g) : Type 0 where
  pub parts : AreComponents m all
  pub in_time : tick < tick_limit
  pub integrators : (j : ℕ) → j < state_count m
      → IsTimely (line_at all j).tick (IsLineNext m j (line_at all j)) tick
  pub functions : (j : ℕ) → j < state_count m → IsSummingReady tick (function_state_at all j)
  pub crossings : (place : ℕ) → place < length (conditions m) → IsCrossingReady m tick (crossing_at all place)

-- the models at some places received a message, and the others are unchanged
pub record AreGiven {A : Type 0} (Given : A → A → Type 0) (places : List ℕ) (old new : List A) : Type 0 where
  pub as_many : length new ≡ length old
  pub each : (j : ℕ) (d : A) → j < length old → is_listed places j ≡ true
      → Given (slice_index_or old j d) (slice_index_or new j d)
  pub others : (j : ℕ) (d : A) → is_listed places j ≡ false
      → slice_index_or new j d ≡ slice_index_or old j d

-- a message was sent to its receivers, and the components may receive another one
pub record HaveReceived {X : Type 0} {g : _} (m : Machine) (tick : ℕ) (message : Message) (old new : Components X g) : Type 0 where
  pub ruled : (name : Option Rule) → AreRuled name old → AreRuled name new
  pub ready : AreReady m tick new
  pub lines : (j : ℕ) → j < state_count m → line_at new j ≡ lines_given tick message (line_at old) j
  pub functions : (j : ℕ) → j < state_count m → function_state_at new j ≡ functions_given m tick message (function_state_at old) j
  pub crossings : (place : ℕ) → place < length (conditions m) → crossing_at new place ≡ crossings_given m tick message (crossing_at old) place

-- no integrator is due at or before this tick
abbrev pub AllLinesLater : Machine → ℕ → (ℕ → Line) → Type 0
AllLinesLater m tick line = (j next : ℕ) → j < state_count m → IsLineNext m j (line j) (Some next) → tick < next

-- a crossing was read on arrival at a tick, and is not due at or before this tick
pub record IsReadAt (tick : ℕ) (old new : CrossingModel) : Type 0 where
  pub machine : new.machine.value ≡ old.machine.value
  pub read : IsRead tick (crossing_of old) (crossing_of new)
  pub later : (next : ℕ) → IsCrossingNext new.detector (Some next) → tick < next
