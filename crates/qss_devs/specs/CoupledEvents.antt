-- The data of a coupled model, the snapshot that it represents, and its view as the state of a run.
use Rattle.std.specs.Prelude.{◌≡◌, ℕ, ◌+◌, ◌<◌, ◌≤◌, List, length, map, All, ℤ, Option, Some, None}
use Rattle.std.specs.Prelude.{vec_capacity}
use Rattle.qss_machine.specs.declared.compiled_machine.Machine.{Machine}
use Rattle.qss_machine.specs.Machines.{state_count, discrete_count}
use Rattle.qss_machine.specs.Handlers.{conditions, truths}
use Rattle.qss_machine.specs.Ticks.{Snapshot, moved_states, handlers_at}
use Rattle.qss_quant.specs.declared.quantizer.Rule.{Rule}
use Rattle.qss_quant.specs.IntegratorLines.{state_at}
use Rattle.qss_hand.specs.Works.{AreValuesOf, row_room}
use Rattle.qss_events.specs.EventFreeTicks.{MayFollowTick}
use Rattle.qss_events.specs.Schedules.{slopes_of}
use Rattle.qss_events.specs.RunViews.{RunView}
use Rattle.qss_events.specs.declared.event_outcome.Outcome.{Outcome}
use Rattle.qss_components.specs.Crossings.{Crossing, IsCrossingNext}
use Rattle.qss_components.specs.Agreement.{Values, HasEach, ComponentsRepresent}
use Rattle.qss_devs.specs.declared.coupled_messages.Components.{Components}
use Rattle.qss_devs.specs.declared.coupled_start.Store.{Store}
use Rattle.qss_devs.specs.Coupling.{line_at, function_state_at, crossing_at, AreComponents}
use Rattle.qss_devs.specs.Coupling.{AreRuled, AreReady, AllLinesLater}
use Rattle.qss_devs.specs.CoupledSteps.{IsMessageOfRow, Agrees}
use Rattle.qss_devs.specs.Flags.{HaveFlags}

-- the states of the integrators' lines at a tick, and their levels
abbrev pub states_at : {X : Type 0} {g : _} → ℕ → Components X g → List ℤ
states_at {X} {g} tick parts = map (λ i. state_at i.line tick) parts.integrators.items

abbrev pub levels_of : {X : Type 0} {g : _} → Components X g → List ℤ
levels_of {X} {g} parts = map (λ i. i.line.level) parts.integrators.items

-- the snapshot at a tick
abbrev pub snapshot_of : {X : Type 0} {g : _} → ℕ → Store X g → Snapshot
snapshot_of {X} {g} tick s = record {
  states = states_at tick s.parts;
  levels = levels_of s.parts;
  discretes = s.work.d;
  at_arrival = s.truths.at_arrival.items;
  after_handlers = s.truths.after_handlers.items;
}

-- components, values within the limits, a flag for each condition, and capacity for all rows of a
-- tick
pub record FitsMachine {X : Type 0} {g : _} (m : Machine) (name : Option Rule) (s : Store X g) : Type 0 where
  pub parts : AreComponents m s.parts
  pub ruled : AreRuled name s.parts
  pub values : AreValuesOf m s.work
  pub work_room : row_room m.clauses ≤ s.work.room
  pub flags : HaveFlags (length (conditions m)) s.truths
  pub row_room : row_room m.clauses + state_count m + discrete_count m + 1 ≤ vec_capacity s.rows

-- no crossing is due at or before this tick
abbrev pub CrossingsLater : Machine → ℕ → (ℕ → Crossing) → Type 0
CrossingsLater m tick c = (place next : ℕ) → place < length (conditions m) → IsCrossingNext (c place).detector (Some next) → tick < next

-- a coupled model represents its snapshot at a tick, and the next transitions of its components are
-- later
pub record StoreRepresents {X : Type 0} {g : _} (m : Machine) (name : Option Rule) (tick : ℕ) (s : Store X g) : Type 0 where
  pub fits : FitsMachine m name s
  pub stand : ComponentsRepresent m tick (snapshot_of tick s) (line_at s.parts) (function_state_at s.parts) (crossing_at s.parts)
  pub left : MayFollowTick m (snapshot_of tick s)
  pub after_handlers : s.truths.after_handlers.items ≡ truths m (snapshot_of tick s).states s.work.d tick
  pub lines : AllLinesLater m tick (line_at s.parts)
  pub crossings : CrossingsLater m tick (crossing_at s.parts)

-- the values of variables on arrival at the tick after a snapshot
abbrev pub arrived_values : Machine → Snapshot → Values
arrived_values m w = record { states = moved_states m w; slopes = slopes_of m w; levels = w.levels; discretes = w.discretes }

-- the handlers of the tick after a snapshot have run: components agree with the values on arrival,
-- and the rows list the assignments to send
pub record IsAfterHandlers {X : Type 0} {g : _} (m : Machine) (name : Option Rule) (tick : ℕ) (w : Snapshot) (s : Store X g) : Type 0 where
  pub fits : FitsMachine m name s
  pub left : MayFollowTick m w
  pub each : HasEach m (arrived_values m w)
  pub ready : AreReady m tick s.parts
  pub agree : Agrees m tick (arrived_values m w) s.parts
  pub none_over : (handlers_at m tick w).overflow ≡ None
  pub states : s.work.x ≡ (handlers_at m tick w).states
  pub discretes : s.work.d ≡ (handlers_at m tick w).discretes
  pub log : s.work.log ≡ (handlers_at m tick w).rows
  pub messages : All (IsMessageOfRow m) s.work.log
  pub count : length s.work.log ≤ row_room m.clauses
  pub current : s.truths.current.items ≡ truths m (moved_states m w) w.discretes tick

-- the view of a store at a tick
abbrev pub view_of : {X : Type 0} {g : _} → Machine → ℕ → Store X g → Option Outcome → RunView
view_of {X} {g} m tick s end = record { machine = m; tick = tick; snapshot = snapshot_of tick s; rows = s.rows.items; end = end }
