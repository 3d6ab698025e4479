-- Defines the contexts of an event step, and the relation between states before and after it.
use Rattle.std.specs.Prelude.{◌≡◌, ℕ, ◌+◌, ◌<◌, ◌≤◌, true, false, List, length, ℤ, Option}
use Rattle.std.specs.Prelude.{None, position, pos, ◌-ℤ◌, ◌*ℤ◌}
use Rattle.qss_machine.specs.declared.compiled_machine.Machine.{Machine}
use Rattle.qss_machine.specs.Machines.{state_count, discrete_count, level_unit, row_at, slope_at}
use Rattle.qss_machine.specs.Machines.{quantum_of, mode_coefficient_at}
use Rattle.mu_num.specs.IndexedSums.{int_at, tabulate}
use Rattle.qss_machine.specs.Slopes.{mode_fits}
use Rattle.qss_machine.specs.Ticks.{is_within_quantum, exceeds_row_limits}
use Rattle.qss_machine.specs.Readers.{reading_rows, uses_of}
use Rattle.mu_num.specs.Writes.{IsWritten}
use Rattle.qss_quant.specs.IntegratorLines.{Line, IsLineWithinQuantum, IsAway}
use Rattle.qss_sched.specs.Ranks.{due_at}
use Rattle.mu_num.specs.ListedPlaces.{is_listed, AreRisingBelow}
use Rattle.mu_num.specs.Limits.{tick_limit, IsLevel, AreLevels, IsState, AreStates, AreSlopes}
use Rattle.qss_events.specs.Schedules.{IsDue}
use Rattle.qss_states.specs.declared.row_sum_changes.RowSum.{RowSum}
use Rattle.qss_states.specs.declared.row_sum_changes.RowSum.TheVariants.{Slope}
use Rattle.qss_states.specs.declared.event_contexts.Arrival.{Arrival}
use Rattle.qss_states.specs.declared.event_contexts.HandlerResult.{HandlerResult}
use Rattle.qss_states.specs.declared.event_contexts.HandlerArrival.{HandlerArrival}
use Rattle.qss_states.specs.declared.event_contexts.Mode.{Mode}
use Rattle.qss_states.specs.declared.event_contexts.NewLevels.{NewLevels}
use Rattle.qss_states.specs.declared.event_contexts.NewSlopes.{NewSlopes}
use Rattle.qss_states.specs.declared.kept_weights.Weights.{Weights}
use Rattle.qss_states.specs.declared.row_sum_changes.LevelChange.{LevelChange}
use Rattle.qss_states.specs.declared.states.States.{States}
use Rattle.qss_states.specs.Variables.{AreAssignedFrom, AreWithin}
use Rattle.qss_states.specs.StateLines.{states_with, line_at, MayMove}
use Rattle.qss_states.specs.SlopeUpdates.{HaveContinued, MayUpdateSlope}
use Rattle.qss_states.specs.SumMarks.{AreReaderSums, AreReadersMarkedOr, IsSlopeAt}
use Rattle.qss_states.specs.KeptWeights.{AreWeights, AreWeightsBefore}
use Rattle.qss_states.specs.LineReplacements.{replaced_lines_from}
use Rattle.qss_states.specs.RowLimits.{IsWeighed}
use Rattle.qss_states.specs.RowSums.{sum_at, taken_by, AreLevelsOfLines, HadSums}
use Rattle.qss_states.specs.RowSums.{IsSumAfterLevelChange}

-- the change of the sum of a row with the level of a state
abbrev pub change_of_sum : RowSum → Mode → ℕ → LevelChange → ℤ
change_of_sum kind at row change =
    taken_by kind (mode_coefficient_at at.machine.now row change.state at.discretes.now)
    *ℤ (change.new -ℤ change.old)

-- the sums of the rows that read a state, after the change of its level
abbrev pub AreSumsAfterChange : RowSum → Mode → LevelChange → List ℤ → List ℤ → Type 0
AreSumsAfterChange kind at change old new =
    IsWritten (pos 0)
    (IsSumAfterLevelChange kind at.machine.now change.state change.old change.new at.discretes.now
    old)
    (reading_rows at.machine.now change.state) old new

-- discrete values of a machine within the limit, at which all coefficients in the current mode are
-- within their limit
pub record IsMode (at : Mode) : Type 0 where
  pub as_many : length at.discretes.now ≡ discrete_count at.machine.now
  pub small : AreLevels at.discretes.now
  pub fits : (row : ℕ) → row < state_count at.machine.now →
      mode_fits at.machine.now.f (state_count at.machine.now) (row_at at.machine.now row) at.discretes.now ≡ true

-- a state may change from one level to another, both within the limit, at discrete values of its
-- machine
pub record CanShift (at : Mode) (change : LevelChange) : Type 0 where
  pub mode : IsMode at
  pub known : change.state < state_count at.machine.now
  pub small_old : IsLevel change.old
  pub small_new : IsLevel change.new

-- the readers of a machine, indices of moved states, and a level of each state, within the limit
pub record AreNewLevels (at : NewLevels) : Type 0 where
  pub uses : at.uses.now ≡ uses_of at.machine.now
  pub moved : AreRisingBelow (state_count at.machine.now) at.moved.now
  pub levels : length at.levels.now ≡ state_count at.machine.now
  pub small_levels : AreLevels at.levels.now

-- such new levels, and a value of each discrete variable, within the limit
pub record AreNewLevelsAt (at : NewLevels) (discretes : List ℤ) : Type 0 where
  pub new : AreNewLevels at
  pub as_many : length discretes ≡ discrete_count at.machine.now
  pub small : AreLevels discretes

-- the sums of all rows at the new levels and at discrete values
abbrev pub new_sums : RowSum → NewLevels → List ℤ → List ℤ
new_sums kind at discretes =
    tabulate (state_count at.machine.now) (λ j. sum_at kind at.machine.now j at.levels.now discretes)

-- the slopes of all rows at the new levels and at discrete values
abbrev pub new_slopes : NewLevels → List ℤ → List ℤ
new_slopes at discretes =
    tabulate (state_count at.machine.now) (λ j. slope_at at.machine.now j at.levels.now discretes)

-- the first row that exceeds its limits at the new levels and at discrete values, if any
abbrev pub first_row_exceeding : NewLevels → List ℤ → Option ℕ
first_row_exceeding at discretes =
    position (exceeds_row_limits at.machine.now at.levels.now discretes) at.machine.now.rows

-- sums and lines at the old levels, and at discrete values
abbrev pub WereSums : RowSum → NewLevels → List ℤ → List ℤ → List Line → Type 0
WereSums kind at discretes sums lines = HadSums kind at.machine.now at.moved.now at.levels.now discretes sums lines

-- sums of all rows at the old levels, which are those of the lines, may be updated for the new
-- levels, at discrete values
pub record CanFollow (kind : RowSum) (at : NewLevels) (discretes sums : List ℤ) (lines : List Line) : Type 0 where
  pub new : AreNewLevelsAt at discretes
  pub many_lines : length lines ≡ state_count at.machine.now
  pub before : WereSums kind at discretes sums lines

-- a number is the slope of a state at the new levels and at the discrete values after handlers
abbrev pub IsNewSlope : NewLevels → HandlerResult → ℕ → ℤ → Type 0
IsNewSlope at left = IsSlopeAt at.machine.now at.levels.now left.discretes.now

-- a number is the absolute row sum of a row there, or above the limit of these sums
abbrev pub IsNewWeight : NewLevels → HandlerResult → ℕ → ℤ → Type 0
IsNewWeight at left = IsWeighed at.machine.now at.levels.now left.discretes.now

-- the sums of the rows that read an assigned variable have a property; all other sums are unchanged
abbrev pub AreAssignedSums : (ℕ → ℤ → Type 0) → NewLevels → HandlerResult → List ℤ → List ℤ → Type 0
AreAssignedSums Has at left old new = AreReaderSums Has at.machine.now left.assigned.now old new

-- the sum of each row that reads an assigned variable has a property, unless the sum is marked
abbrev pub AreAssignedOrMarked : (ℕ → ℤ → Type 0) → NewLevels → HandlerResult → List ℤ → Type 0
AreAssignedOrMarked Has at left sums = AreReadersMarkedOr Has at.machine.now left.assigned.now sums

-- absolute row sums and lines at the old levels, and at discrete values
abbrev pub WereWeights : NewLevels → List ℤ → Weights → List Line → Type 0
WereWeights at discretes weights lines =
    (old : List ℤ) × AreWeightsBefore at.machine.now at.moved.now at.levels.now discretes weights lines old

-- states and discrete values after handlers, and discrete values before them, within the limits;
-- only the assigned ones differ
pub record IsHandlerResult (m : Machine) (left : HandlerResult) : Type 0 where
  pub assigned : AreAssignedFrom m left.assigned.now left.before.now left.discretes.now
  pub many_before : length left.before.now ≡ discrete_count m
  pub values : AreWithin m left.states.now left.discretes.now

-- new levels after handlers, the result of the handlers, and a line of each state
pub record CanUpdateAfterHandlers (at : NewLevels) (left : HandlerResult) (lines : List Line) : Type 0 where
  pub new : AreNewLevels at
  pub handled : IsHandlerResult at.machine.now left
  pub many_lines : length lines ≡ state_count at.machine.now

-- a state is at least one quantum away from its level
abbrev pub HasLeft : Machine → ℕ → ℤ → ℤ → Type 0
HasLeft m j state level = IsAway (level_unit m) state level (quantum_of m j level)

-- these states are at least one quantum away from their levels
abbrev pub HaveLeft : Machine → List ℕ → List ℤ → List ℤ → Type 0
HaveLeft m moved x levels = (j : ℕ) → is_listed moved j ≡ true → HasLeft m j (int_at x j) (int_at levels j)

-- the moved states are at least one quantum away from their levels
abbrev pub HaveLeftAt : HandlerArrival → States → Type 0
HaveLeftAt at s = HaveLeft at.machine.now at.moved.now at.work.now.x s.levels.items

-- the moved states may take new levels at these states, from a level of each state, within the
-- limits; they have left their quanta, unless they may have joined; after the rows so far there is
-- capacity for one row of each state
pub record CanRequantize (at : Arrival) (levels_old : List ℤ) (taken capacity : ℕ) : Type 0 where
  pub states : length at.states.now ≡ state_count at.machine.now
  pub levels : length levels_old ≡ state_count at.machine.now
  pub moved : AreRisingBelow (state_count at.machine.now) at.moved.now
  pub small_states : (j : ℕ) → is_listed at.moved.now j ≡ true → IsState (int_at at.states.now j)
  pub small_levels : AreLevels levels_old
  pub left : at.joined ≡ false → HaveLeft at.machine.now at.moved.now at.states.now levels_old
  pub room : taken + state_count at.machine.now ≤ capacity

-- a line of each state, the level of each line, within the limit, and the absolute row sums of all
-- rows at these levels and at discrete values, none above its limit
pub record HoldsLevels (m : Machine) (states : States) (d : List ℤ) : Type 0 where
  pub lines : length states.lines.items ≡ state_count m
  pub levels : length states.levels.items ≡ state_count m
  pub of_lines : AreLevelsOfLines m states.lines.items states.levels.items d
  pub weights : AreWeights m states.levels.items d states.weights

-- the readers of a machine, indices of moved states and of assigned variables, and values within
-- the limits
pub record IsHandlerArrival (at : HandlerArrival) : Type 0 where
  pub uses : at.uses.now ≡ uses_of at.machine.now
  pub moved : AreRisingBelow (state_count at.machine.now) at.moved.now
  pub assigned : AreAssignedFrom at.machine.now at.assigned.now at.work.now.pre at.work.now.d
  pub values : AreWithin at.machine.now at.work.now.x at.work.now.d
  pub before : length at.work.now.pre ≡ discrete_count at.machine.now

-- the result of the handlers of a tick
pub record IsResultOf (at : HandlerArrival) (left : HandlerResult) : Type 0 where
  pub assigned : left.assigned.now ≡ at.assigned.now
  pub states : left.states.now ≡ at.work.now.x
  pub before : left.before.now ≡ at.work.now.pre
  pub discretes : left.discretes.now ≡ at.work.now.d

-- a slope, a line and an index in an event queue for each state
pub record HasOneEach (m : Machine) (slopes_old : List ℤ) (lines_old : List Line) (dues_old : List (Option ℕ)) : Type 0 where
  pub slopes : length slopes_old ≡ state_count m
  pub lines : length lines_old ≡ state_count m
  pub places : state_count m ≤ length dues_old

-- the states of a machine may continue from a tick up to 2^32 at their new levels and slopes, each
-- with a line and an index in an event queue
pub record CanSchedule (at : NewSlopes) (lines_old : List Line) (dues_old : List (Option ℕ)) : Type 0 where
  pub new : AreNewLevels at.event
  pub one_each : HasOneEach at.event.machine.now at.slopes.now lines_old dues_old
  pub small_slopes : AreSlopes at.slopes.now
  pub in_time : at.event.tick ≤ tick_limit

-- one state of a machine may continue in this way
pub record CanScheduleOne (at : NewSlopes) (j : ℕ) (lines_old : List Line) (dues_old : List (Option ℕ)) : Type 0 where
  pub known : j < state_count at.event.machine.now
  pub all : CanSchedule at lines_old dues_old

-- the states of a machine may continue in this way; each line may also be left if it already does
pub record CanUpdateSlopes (at : NewSlopes) (lines_old : List Line) (dues_old : List (Option ℕ)) : Type 0 where
  pub on : CanSchedule at lines_old dues_old
  pub each : (j : ℕ) → j < state_count at.event.machine.now →
      MayUpdateSlope at.event.machine.now at.event.tick (int_at at.event.levels.now j) (int_at at.slopes.now j) j (line_at lines_old j) (due_at dues_old j)

-- a value of each state, within the limit
pub record AreStatesOf (m : Machine) (x : List ℤ) : Type 0 where
  pub as_many : length x ≡ state_count m
  pub small : AreStates x

-- these states are within the quanta of these levels, at which, with these discrete values, no row
-- exceeds its limits
pub record AreLevelsFor (m : Machine) (states levels discretes : List ℤ) : Type 0 where
  pub near : (j : ℕ) → j < state_count m → IsLineWithinQuantum (level_unit m) (int_at states j) (int_at levels j) (quantum_of m j (int_at levels j))
  pub light : position (exceeds_row_limits m levels discretes) m.rows ≡ None

-- slopes, lines and due ticks before the moved states took these levels; no line has moved to the
-- tick yet; a state that did not move and whose level did not change has a valid due tick
pub record HeldBefore (m : Machine) (tick : ℕ) (moved : List ℕ) (levels discretes slopes_old : List ℤ) (lines_old : List Line) (dues_old : List (Option ℕ)) : Type 0 where
  pub may_move : MayMove tick lines_old
  pub earlier : (j : ℕ) → j < state_count m → (line_at lines_old j).tick < tick
  pub before : HadSums Slope m moved levels discretes slopes_old lines_old
  pub own_slope : (j : ℕ) → j < state_count m → (line_at lines_old j).slope ≡ int_at slopes_old j
  pub due : (j : ℕ) → j < state_count m → is_listed moved j ≡ false → (line_at lines_old j).level ≡ int_at levels j →
      IsDue m tick j (line_at lines_old j) (due_at dues_old j)

-- the states after handlers: the moved ones as the handlers left them, the others along their lines
abbrev pub states_left : NewLevels → HandlerResult → List Line → List ℤ
states_left at left lines = states_with lines at.tick at.moved.now left.states.now

-- the moved states may restart after handlers from their states, and all states continue at their
-- new slopes
pub record CanRestart (at : NewLevels) (left : HandlerResult) (slopes_old : List ℤ) (lines_old : List Line) (dues_old : List (Option ℕ)) : Type 0 where
  pub new : AreNewLevels at
  pub handled : IsHandlerResult at.machine.now left
  pub small_states : AreStates (states_left at left lines_old)
  pub levels : AreLevelsFor at.machine.now (states_left at left lines_old) at.levels.now left.discretes.now
  pub one_each : HasOneEach at.machine.now slopes_old lines_old dues_old
  pub held : HeldBefore at.machine.now at.tick at.moved.now at.levels.now left.before.now slopes_old lines_old dues_old

-- the states after the handlers of a tick: the moved ones as the handlers left them, the others
-- along their lines
abbrev pub states_after : HandlerArrival → States → List ℤ
states_after at s = states_with s.lines.items at.tick at.moved.now at.work.now.x

-- the slopes at the levels of the states and at the discrete values after the handlers of a tick
abbrev pub slopes_after : HandlerArrival → States → List ℤ
slopes_after at s =
    tabulate (state_count at.machine.now)
    (λ j. slope_at at.machine.now j s.levels.items at.work.now.d)

-- the number of lines that do not continue in this way already
abbrev pub replaced_lines_after : HandlerArrival → States → ℕ
replaced_lines_after at s =
    replaced_lines_from (state_count at.machine.now) at.tick (states_after at s) s.levels.items
    (slopes_after at s) s.lines.items

-- the moved states may restart after handlers from their states, and all states continue at new
-- slopes: the levels are the new ones, lines, slopes and due ticks are those before the tick
pub record CanContinue (at : HandlerArrival) (s : States) (dues : List (Option ℕ)) : Type 0 where
  pub ready : IsHandlerArrival at
  pub count : length s.levels.items ≡ state_count at.machine.now
  pub small_levels : AreLevels s.levels.items
  pub small_states : AreStates (states_after at s)
  pub levels : AreLevelsFor at.machine.now (states_after at s) s.levels.items at.work.now.d
  pub one_each : HasOneEach at.machine.now s.slopes.items s.lines.items dues
  pub held :
      HeldBefore at.machine.now at.tick at.moved.now s.levels.items at.work.now.pre s.slopes.items
      s.lines.items dues

-- the slices of the states have continued from a tick after handlers
abbrev pub HaveContinuedAt : NewSlopes → List Line → List (Option ℕ) → List Line →
    List (Option ℕ) → Type 0
HaveContinuedAt at lines_old dues_old lines_new dues_new =
    HaveContinued at.event.machine.now at.event.tick (states_left at.event at.handled lines_old)
    at.event.levels.now at.handled.discretes.now
    (record { lines = lines_old; dues = dues_old }) (record { lines = lines_new; dues = dues_new })

-- the states have continued from a tick after handlers
abbrev pub HaveContinuedAfter : HandlerArrival → States → List (Option ℕ) → States →
    List (Option ℕ) → Type 0
HaveContinuedAfter at old dues_old new dues_new =
    HaveContinued at.machine.now at.tick (states_after at old) old.levels.items at.work.now.d
    (record { lines = old.lines.items; dues = dues_old })
    (record { lines = new.lines.items; dues = dues_new })

-- the absolute row sums at the levels of the states and at discrete values
abbrev pub HaveWeights : Machine → States → List ℤ → Type 0
HaveWeights m s d = AreWeights m s.levels.items d s.weights

-- states that have these values if they moved, and are otherwise within the quanta of their levels
pub record AreMovedTo (m : Machine) (moved : List ℕ) (x levels states : List ℤ) : Type 0 where
  pub as_many : length states ≡ state_count m
  pub own : (j : ℕ) → is_listed moved j ≡ true → int_at states j ≡ int_at x j
  pub near : (j : ℕ) → j < state_count m → is_listed moved j ≡ false → is_within_quantum m j (int_at states j) (int_at levels j) ≡ true
