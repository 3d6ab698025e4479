-- Defines a store after handlers and after an event step, and the effect of an event step.
use Rattle.std.specs.Prelude.{◌≡◌, ℕ, ◌+◌, ◌<◌, ◌≤◌, List, length, ℤ, Option, None, Result}
use Rattle.std.specs.Prelude.{vec_capacity}
use Rattle.mu_num.specs.Limits.{tick_limit, AreLevels}
use Rattle.qss_machine.specs.declared.compiled_machine.Machine.{Machine}
use Rattle.qss_machine.specs.Machines.{state_count}
use Rattle.qss_machine.specs.Handlers.{conditions, truths}
use Rattle.qss_machine.specs.Runs.{tick_rows}
use Rattle.qss_machine.specs.Ticks.{Snapshot, snapshot_unless, IsStep}
use Rattle.qss_quant.specs.declared.quantizer.Rule.{Rule}
use Rattle.qss_sched.specs.Ranks.{due_at}
use Rattle.qss_events.specs.HandlerRows.{reinitialized_of}
use Rattle.qss_events.specs.AllowedLevels.{IsAllowedLevel}
use Rattle.qss_states.specs.StateLines.{states_at, states_with}
use Rattle.qss_states.specs.Variables.{AreAssignedFrom}
use Rattle.qss_states.specs.KeptWeights.{AreWeights}
use Rattle.qss_states.specs.EventContexts.{AreLevelsFor, HeldBefore}
use Rattle.qss_run.specs.HandlerResults.{AreStatesLeft, AreSettledBut, AreDetectorsUpTo}
use Rattle.qss_run.specs.DetectorUpdates.{detector_states_of}
use Rattle.qss_hand.specs.Works.{overflow_of}
use Rattle.qss_run.specs.declared.event_steps.EventStep.{EventStep}
use Rattle.qss_run.specs.declared.run_start.Store.{Store}
use Rattle.qss_run.specs.Stores.{FitsMachine, snapshot_of, IsStoreAt}
use Rattle.qss_run.specs.TouchCounts.{touches_at}

-- a store may continue from a tick after its handlers: states, discrete values, levels and absolute
-- row sums are those after them; slopes, lines, due ticks and detectors are those before the tick;
-- nothing is due at the index after the conditions
pub record CanContinueAfterHandlers (m : Machine) (tick : ℕ) (s : Store) : Type 0 where
  pub fits : FitsMachine m s
  pub in_time : tick < tick_limit
  pub assigned : AreAssignedFrom m s.moment.assigned.items s.work.pre s.work.d
  pub states : AreStatesLeft m tick s.states.lines.items s.moment.moved.items s.work
  pub after_handlers : AreSettledBut m tick (states_at s.states.lines.items tick) s.work.pre s.states.slopes.items s.moment.changed.items s.conditions s.agenda
  pub small_levels : AreLevels s.states.levels.items
  pub levels : AreLevelsFor m (states_with s.states.lines.items tick s.moment.moved.items s.work.x) s.states.levels.items s.work.d
  pub weights : AreWeights m s.states.levels.items s.work.d s.states.weights
  pub held : HeldBefore m tick s.moment.moved.items s.states.levels.items s.work.pre s.states.slopes.items s.states.lines.items s.agenda
  pub behind : due_at s.agenda (state_count m + length (conditions m)) ≡ None

-- the snapshot of a store after it continued from a tick after its handlers
abbrev pub snapshot_left : Machine → ℕ → Store → Snapshot
snapshot_left m tick s =
    let states : List ℤ = states_with s.states.lines.items tick s.moment.moved.items s.work.x in
    record {
      states = states;
      levels = s.states.levels.items;
      discretes = s.work.d;
      at_arrival = s.conditions.at_arrival.items;
      after_handlers = truths m states s.work.d tick;
    }

-- the result of an event step: the snapshot of the store at its tick, or the overflow
abbrev pub snapshot_after : EventStep → Store → Result Snapshot ℕ
snapshot_after step s = snapshot_unless (overflow_of step.ran) (snapshot_of step.tick s)

-- the conditions of a store were settled up to a tick, at other values and slopes before
abbrev pub HadDetectors : Machine → ℕ → Store → Type 0
HadDetectors m tick s =
    (x pre before : List ℤ) × AreDetectorsUpTo m tick s.moment.moved.items (reinitialized_of s.work.log) s.moment.assigned.items s.moment.changed.items x (states_at s.states.lines.items tick) pre s.work.d before s.states.slopes.items
    (detector_states_of s.conditions s.agenda)

-- only detectors, settled truths, the event queue, and states in the values of handlers change
abbrev pub HasDetectorsUpdated : Store → Store → Type 0
HasDetectorsUpdated old new =
    new
    ≡ record old {
      conditions = record old.conditions { detectors = new.conditions.detectors; after_handlers = new.conditions.after_handlers; flipped = new.conditions.flipped };
      agenda = new.agenda;
      work = record old.work { x = new.work.x };
    }

-- an event step is a step of the definition, with its rows and overflow; it moves at most as many
-- lines as the tick affects states; without an overflow the store is valid at the tick
pub record IsEventRun (m : Machine) (name : Option Rule) (tick : ℕ) (old new : Store) (over : Option ℕ) (steps_old steps_new : ℕ) : Type 0 where
  pub stepped : IsStep (IsAllowedLevel name) m (tick + 1) (snapshot_of tick old) (snapshot_unless over (snapshot_of (tick + 1) new))
  pub rows : over ≡ None → new.rows.items ≡ tick_rows m (tick + 1) (snapshot_of tick old) (snapshot_of (tick + 1) new)
  pub stands : over ≡ None → IsStoreAt m (tick + 1) new
  pub room : vec_capacity new.rows ≡ vec_capacity old.rows
  pub counted : steps_new ≤ steps_old + touches_at m (tick + 1) (snapshot_of tick old) (snapshot_unless over (snapshot_of (tick + 1) new))
