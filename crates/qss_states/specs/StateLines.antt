-- Defines the lines of states by index, and the states on these lines at a tick.
use Rattle.std.specs.Prelude.{ℕ, Bool, List, length, ℤ, pos, false, if◌then◌else◌, ◌≡◌, ◌<◌}
use Rattle.std.specs.Prelude.{◌≤◌, Option, None, slice_index_or}
use Rattle.mu_num.specs.Sizes.{IsWithin, exceeds}
use Rattle.qss_machine.specs.Machines.{state_count}
use Rattle.mu_num.specs.IndexedSums.{int_at, tabulate, first_exceeding}
use Rattle.qss_machine.specs.declared.compiled_machine.Machine.{Machine}
use Rattle.qss_quant.specs.IntegratorLines.{Line, state_at}
use Rattle.mu_num.specs.ListedPlaces.{is_listed, AreRisingBelow}
use Rattle.qss_events.specs.Schedules.{IsDue, no_line}
use Rattle.mu_num.specs.Writes.{IsWritten}
use Rattle.mu_num.specs.Limits.{tick_limit, bits_of_state, IsState, AreStates}

-- the line of a state
abbrev pub line_at : List Line → ℕ → Line
line_at lines j = slice_index_or lines j no_line

-- whether the state of a line exceeds its limit at a tick
abbrev pub passes_at : ℕ → List Line → ℕ → Bool
passes_at tick lines j = exceeds bits_of_state (state_at (line_at lines j) tick)

-- the states on these lines at a tick
abbrev pub states_at : List Line → ℕ → List ℤ
states_at lines tick = tabulate (length lines) (λ j. state_at (line_at lines j) tick)

-- a line of each state, none later than a tick of a run
pub record AreLinesUpTo (m : Machine) (tick : ℕ) (lines : List Line) : Type 0 where
  pub as_many : length lines ≡ state_count m
  pub later : (j : ℕ) → j < length lines → (line_at lines j).tick ≤ tick
  pub in_time : tick < tick_limit

-- lines up to a tick, with states within the limit at this tick
pub record AreLinesAt (m : Machine) (tick : ℕ) (lines : List Line) : Type 0 where
  pub up_to : AreLinesUpTo m tick lines
  pub small : AreStates (states_at lines tick)

-- lines up to a tick, and indices of due states: the other states are within the limit at this tick
pub record AreLinesWithDue (m : Machine) (tick : ℕ) (lines : List Line) (due : List ℕ) : Type 0 where
  pub up_to : AreLinesUpTo m tick lines
  pub numbers : AreRisingBelow (state_count m) due
  pub others_small : (j : ℕ) → j < state_count m → is_listed due j ≡ false → IsState (state_at (line_at lines j) tick)

-- lines that may move to a tick up to 2^32: none is later, and their states at the tick are within
-- 89 bits
pub record MayMove (tick : ℕ) (lines : List Line) : Type 0 where
  pub later : (j : ℕ) → j < length lines → (line_at lines j).tick ≤ tick
  pub small : (j : ℕ) → j < length lines → IsWithin 89 (state_at (line_at lines j) tick)
  pub in_time : tick ≤ tick_limit

-- a number for each line, which may be set to the state on this line at a tick up to 2^32; no line
-- is later
pub record MayArrive (tick : ℕ) (lines : List Line) (x : List ℤ) : Type 0 where
  pub as_many : length x ≡ length lines
  pub later : (j : ℕ) → j < length lines → (line_at lines j).tick ≤ tick
  pub in_time : tick ≤ tick_limit

-- a value of each state, within the limit; those of the due states may be set to the states on
-- their lines at a tick below 2^32; the other states are within the limit
pub record CanArriveWithin (tick : ℕ) (lines : List Line) (due : List ℕ) (x : List ℤ) : Type 0 where
  pub as_many : length x ≡ length lines
  pub numbers : AreRisingBelow (length lines) due
  pub later : (j : ℕ) → j < length lines → (line_at lines j).tick ≤ tick
  pub in_time : tick < tick_limit
  pub others_small : (j : ℕ) → j < length lines → is_listed due j ≡ false → IsState (state_at (line_at lines j) tick)
  pub small : AreStates x

-- the due states have arrived, and the first that exceeds its limit was found, if any; if none
-- does, all values are within the limit
pub record HaveArrivedWithin (tick : ℕ) (lines : List Line) (due : List ℕ) (x new : List ℤ) (over : Option ℕ) : Type 0 where
  pub over_is : over ≡ first_exceeding bits_of_state (states_at lines tick)
  pub at_arrival : IsWritten (pos 0) (λ j z. z ≡ state_at (line_at lines j) tick) due x new
  pub small : over ≡ None → AreStates new

-- the states at a tick: these values for the moved states, and the states on their lines for the
-- others
abbrev pub states_with : List Line → ℕ → List ℕ → List ℤ → List ℤ
states_with lines tick moved x = tabulate (length lines) (λ j. if is_listed moved j then int_at x j else state_at (line_at lines j) tick)

-- the line of a state has this state at a tick, this slope and this level, and this is the tick at
-- which it leaves its quantum
pub record IsRestartedFrom (m : Machine) (tick : ℕ) (state level slope : ℤ) (j : ℕ) (line : Line) (due : Option ℕ) : Type 0 where
  pub not_later : line.tick ≤ tick
  pub here : state_at line tick ≡ state
  pub own_slope : line.slope ≡ slope
  pub own_level : line.level ≡ level
  pub is_due : IsDue m tick j line due
