-- Defines how lines and due ticks change when some states continue at new slopes.
use Rattle.std.specs.Prelude.{◌≡◌, ℕ, ◌<◌, ◌≤◌, ◌⊎◌, List, length, ℤ, Option, true, false}
use Rattle.qss_machine.specs.declared.compiled_machine.Machine.{Machine}
use Rattle.qss_machine.specs.Machines.{state_count, level_unit, quantum_of, slope_at}
use Rattle.mu_num.specs.IndexedSums.{int_at}
use Rattle.qss_quant.specs.IntegratorLines.{Line, state_at, IsLineWithinQuantum}
use Rattle.qss_sched.specs.Ranks.{due_at}
use Rattle.mu_num.specs.ListedPlaces.{is_listed}
use Rattle.mu_num.specs.Limits.{IsState}
use Rattle.qss_states.specs.StateLines.{line_at, IsRestartedFrom}
use Rattle.qss_states.specs.LineReplacements.{goes_from, has_level_and_slope}
use Rattle.qss_events.specs.Schedules.{IsDue}

-- a line may continue from a tick at a level: it is at the tick, and its state is within the
-- quantum of the level
pub record MaySchedule (m : Machine) (tick j : ℕ) (level : ℤ) (line : Line) : Type 0 where
  pub here : line.tick ≡ tick
  pub near : IsLineWithinQuantum (level_unit m) (state_at line tick) level (quantum_of m j level)

-- a line at this level may continue from a tick at this slope: its state is within the quantum, its
-- due tick is valid, and it has the slope if it is at the tick
pub record MayUpdateSlope (m : Machine) (tick : ℕ) (level slope : ℤ) (j : ℕ) (line : Line) (found : Option ℕ) : Type 0 where
  pub not_later : line.tick ≤ tick
  pub small : IsState (state_at line tick)
  pub near : IsLineWithinQuantum (level_unit m) (state_at line tick) level (quantum_of m j level)
  pub own_level : line.level ≡ level
  pub is_set : line.tick ≡ tick → line.slope ≡ slope
  pub is_due : IsDue m tick j line found

-- the due ticks with this property do not change, and the event queue has the same length
pub record DuesStay (Such : ℕ → Type 0) (old new : List (Option ℕ)) : Type 0 where
  pub places : length new ≡ length old
  pub others : (place : ℕ) → Such place → due_at new place ≡ due_at old place

-- the line and due tick of a state do not change, or it continues from a tick at this level and
-- slope
abbrev pub StaysOrRestarts : Machine → ℕ → ℤ → ℤ → ℕ → Line → Line → Option ℕ → Option ℕ → Type 0
StaysOrRestarts m tick level slope j old new due_old due_new = ((new ≡ old) × (due_new ≡ due_old)) ⊎ IsRestartedFrom m tick (state_at old tick) level slope j new due_new

-- lines and due ticks of the states
pub record Schedules : Type 0 where
  pub lines : List Line
  pub dues : List (Option ℕ)

-- the lines and due ticks of the states with this property do not change
pub record SchedulesStay (Such : ℕ → Type 0) (old new : Schedules) : Type 0 where
  pub lines : (k : ℕ) → Such k → line_at new.lines k ≡ line_at old.lines k
  pub dues : DuesStay Such old.dues new.dues

-- one state continues from a tick at its level and slope; the others do not change
pub record IsOneScheduled (m : Machine) (tick : ℕ) (levels slopes : List ℤ) (j : ℕ) (x : ℤ) (old new : Schedules) : Type 0 where
  pub own : IsRestartedFrom m tick x (int_at levels j) (int_at slopes j) j (line_at new.lines j) (due_at new.dues j)
  pub others : SchedulesStay (λ k. k ≡ j → ⊥) old new

-- these states continue from a tick, each from its state, at their levels and slopes; the others do
-- not change
pub record AreScheduled (m : Machine) (tick : ℕ) (levels slopes : List ℤ) (states : List ℕ) (x : ℕ → ℤ) (old new : Schedules) : Type 0 where
  pub own : (j : ℕ) → is_listed states j ≡ true → IsRestartedFrom m tick (x j) (int_at levels j) (int_at slopes j) j (line_at new.lines j) (due_at new.dues j)
  pub others : SchedulesStay (λ k. is_listed states k ≡ false) old new

-- each state does not change or continues at these levels and slopes, and these states do; a line
-- that already continues in this way does not change
pub record HaveSlopesUpdated (m : Machine) (tick : ℕ) (levels slopes : List ℤ) (states : List ℕ) (old new : Schedules) : Type 0 where
  pub each : (k : ℕ) → k < state_count m →
      StaysOrRestarts m tick (int_at levels k) (int_at slopes k) k (line_at old.lines k) (line_at new.lines k) (due_at old.dues k) (due_at new.dues k)
  pub own : (k : ℕ) → k < state_count m → is_listed states k ≡ true →
      IsRestartedFrom m tick (state_at (line_at old.lines k) tick) (int_at levels k) (int_at slopes k) k (line_at new.lines k) (due_at new.dues k)
  pub left : (k : ℕ) → k < state_count m → has_level_and_slope (int_at levels k) (int_at slopes k) (line_at old.lines k) ≡ true → line_at new.lines k ≡ line_at old.lines k
  pub as_many : length new.dues ≡ length old.dues
  pub others : (place : ℕ) → state_count m ≤ place → due_at new.dues place ≡ due_at old.dues place

-- each state continues from a tick, from its state there, at its level and at the slope for these
-- levels and discrete values; a line that already continues in this way does not change
pub record HaveContinued (m : Machine) (tick : ℕ) (x levels d : List ℤ)
    (old new : Schedules) : Type 0 where
  pub lines : (j : ℕ) → j < state_count m →
      IsRestartedFrom m tick (int_at x j) (int_at levels j) (slope_at m j levels d) j
      (line_at new.lines j) (due_at new.dues j)
  pub kept : (j : ℕ) → j < state_count m →
      goes_from tick (int_at x j) (int_at levels j) (slope_at m j levels d) (line_at old.lines j)
      ≡ true → line_at new.lines j ≡ line_at old.lines j
  pub line_count : length new.lines ≡ length old.lines
  pub places : length new.dues ≡ length old.dues
  pub others : (place : ℕ) → state_count m ≤ place →
      due_at new.dues place ≡ due_at old.dues place
