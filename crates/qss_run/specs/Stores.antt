-- Defines the invariant of stores of a simulator, and their snapshots.
use Rattle.std.specs.Prelude.{◌≡◌, ℕ, ◌+◌, ◌<◌, ◌≤◌, false, List, length, ℤ, map, Option, None}
use Rattle.std.specs.Prelude.{position, vec_capacity}
use Rattle.qss_machine.specs.declared.compiled_machine.Machine.{Machine}
use Rattle.qss_machine.specs.Machines.{state_count, discrete_count, level_unit, quantum_of, slope_at}
use Rattle.qss_machine.specs.Machines.{start_states, start_discretes}
use Rattle.mu_num.specs.IndexedSums.{int_at, tabulate}
use Rattle.mu_num.specs.Levels.{level_below}
use Rattle.mu_num.specs.Limits.{AreLevels}
use Rattle.qss_machine.specs.Handlers.{conditions}
use Rattle.qss_machine.specs.Ticks.{exceeds_row_limits, Snapshot}
use Rattle.qss_machine.specs.Readers.{uses_of}
use Rattle.qss_hand.specs.Works.{row_room}
use Rattle.qss_sched.specs.Ranks.{due_at, HasNone}
use Rattle.qss_quant.specs.IntegratorLines.{IsLineWithinQuantum, Line}
use Rattle.qss_events.specs.declared.event_outcome.Outcome.{Outcome}
use Rattle.qss_run.specs.declared.run_start.Store.{Store}
use Rattle.qss_states.specs.StateLines.{line_at, states_at, IsRestartedFrom}
use Rattle.qss_states.specs.Variables.{AreWithin}
use Rattle.qss_run.specs.ConditionPlaces.{detector_at, AreConditionsOf, KnowsApart}
use Rattle.qss_states.specs.KeptWeights.{AreWeights}
use Rattle.qss_run.specs.DueLists.{AreDue, AreConditionsToEvaluate, AreDueRemoved, HasRoom}
use Rattle.qss_events.specs.Schedules.{slopes_of, rises, IsScheduleOf}

-- the snapshot at a tick
abbrev pub snapshot_of : ℕ → Store → Snapshot
snapshot_of tick s = record {
  states = states_at s.states.lines.items tick;
  levels = s.states.levels.items;
  discretes = s.work.d;
  at_arrival = s.conditions.at_arrival.items;
  after_handlers = s.conditions.after_handlers.items;
}

-- lists of the lengths of the machine, values within the limits, and capacity for a tick
pub record FitsMachine (m : Machine) (s : Store) : Type 0 where
  pub own_conditions : AreConditionsOf m s.conditions
  pub uses : s.uses ≡ uses_of m
  pub lines : length s.states.lines.items ≡ state_count m
  pub levels : length s.states.levels.items ≡ state_count m
  pub slopes : length s.states.slopes.items ≡ state_count m
  pub weights : length s.states.weights.of_rows.items ≡ state_count m
  pub places : length s.agenda ≡ state_count m + length (conditions m) + 1
  pub values : AreWithin m s.work.x s.work.d
  pub before : length s.work.pre ≡ discrete_count m
  pub lists : HasRoom m s.moment
  pub log : row_room m.clauses ≤ s.work.room
  pub rows : row_room m.clauses + state_count m + discrete_count m + 1 ≤ vec_capacity s.rows

-- a store represents its snapshot at a tick: its lines, detectors and due ticks, its slopes, the
-- absolute row sums if needed, and the conditions that the handlers changed
pub record IsStoreAt (m : Machine) (tick : ℕ) (s : Store) : Type 0 where
  pub fits : FitsMachine m s
  pub stands_for : IsScheduleOf m tick (snapshot_of tick s) (line_at s.states.lines.items) (detector_at s.conditions.detectors.items) (due_at s.agenda)
  pub own_slopes : s.states.slopes.items ≡ slopes_of m (snapshot_of tick s)
  pub own_weights : AreWeights m s.states.levels.items s.work.d s.states.weights
  pub rising : s.rising ≡ rises (snapshot_of tick s)
  pub alike : KnowsApart s.conditions

-- a store represents a tick before the last one
pub record IsUnderWay (m : Machine) (tick : ℕ) (s : Store) : Type 0 where
  pub stands : IsStoreAt m tick s
  pub in_time : tick < m.last

-- a store represented a tick with this event queue; the states and conditions to be evaluated at
-- the next tick were removed
pub record HasDueRemovedFrom (m : Machine) (tick : ℕ) (agenda : List (Option ℕ)) (s : Store) : Type 0 where
  pub stands : IsStoreAt m tick (record s { agenda = agenda })
  pub due : AreDue (state_count m) (tick + 1) agenda s.moment.moved.items
  pub changing : AreConditionsToEvaluate (state_count m) (length (conditions m)) (tick + 1) agenda (snapshot_of tick s) s.moment.changed.items
  pub without : AreDueRemoved (state_count m) (length (conditions m)) s.moment.moved.items s.moment.changed.items agenda s.agenda

-- the same for some event queue, at a tick before the last one
pub record HasDueRemoved (m : Machine) (tick : ℕ) (s : Store) : Type 0 where
  pub taken : (agenda : List (Option ℕ)) × HasDueRemovedFrom m tick agenda s
  pub in_time : tick < m.last

-- a store with all its memory and the initial values
pub record IsBlank (m : Machine) (s : Store) : Type 0 where
  pub fits : FitsMachine m s
  pub states : s.work.x ≡ start_states m
  pub discretes : s.work.d ≡ start_discretes m
  pub levels : s.states.levels.items ≡ map (level_below (level_unit m)) (start_states m)
  pub no_dues : HasNone s.agenda
  pub not_rising : s.rising ≡ false

-- lines of all states may start at these values and levels: they are within the limits, and each
-- state is within the quantum of its level
pub record CanStart (m : Machine) (x levels d : List ℤ) : Type 0 where
  pub values : AreWithin m x d
  pub one_each : length levels ≡ state_count m
  pub small_levels : AreLevels levels
  pub light : position (exceeds_row_limits m levels d) m.rows ≡ None
  pub near : (j : ℕ) → j < state_count m →
      IsLineWithinQuantum (level_unit m) (int_at x j) (int_at levels j)
      (quantum_of m j (int_at levels j))

-- the lines of all states start at tick 0, at their states and levels and the slopes of these
-- levels and discrete values
pub record AreAllScheduled (m : Machine) (x levels d slopes_new : List ℤ) (lines_new : List Line) (dues_new : List (Option ℕ)) : Type 0 where
  pub slopes : slopes_new ≡ tabulate (state_count m) (λ j. slope_at m j levels d)
  pub lines : (j : ℕ) → j < state_count m → IsRestartedFrom m 0 (int_at x j) (int_at levels j) (slope_at m j levels d) j (line_at lines_new j) (due_at dues_new j)

-- the lines of all states of a store start at the values and levels of another one
abbrev pub AreLinesStarted : Machine → Store → Store → Type 0
AreLinesStarted m old new =
    AreAllScheduled m old.work.x old.states.levels.items old.work.d new.states.slopes.items
    new.states.lines.items new.agenda

-- a tick of the run, and a store that represents it until the run has ended
pub record IsSim (m : Machine) (tick : ℕ) (end : Option Outcome) (s : Store) : Type 0 where
  pub in_time : tick ≤ m.last
  pub stands : end ≡ None → IsStoreAt m tick s
