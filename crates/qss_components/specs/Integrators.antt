-- A quantized integrator: a state on a line that takes a new level at a quantum from its level.
use Rattle.std.specs.Prelude.{◌≡◌, ℕ, ◌==◌, ℤ, Option, Some, MatchBool, if◌then◌else◌}
use Rattle.qss_machine.specs.declared.compiled_machine.Machine.{Machine}
use Rattle.qss_machine.specs.Machines.{level_unit}
use Rattle.qss_machine.specs.Ticks.{is_within_quantum}
use Rattle.qss_quant.specs.declared.quantizer.Rule.{Rule}
use Rattle.qss_quant.specs.IntegratorLines.{Line, state_at}
use Rattle.qss_quant.specs.LevelRules.{IsAnswer}
use Rattle.qss_events.specs.Schedules.{IsDue}
use Rattle.qss_components.specs.declared.atomic.Message.{Message}
use Rattle.qss_components.specs.declared.atomic.Message.TheVariants.{Slope, State, Level, Discrete}
use Rattle.qss_components.specs.declared.atomic.Message.TheVariants.{Truth}

-- the next transition is at the line's own tick if the state is at least a quantum from its level,
-- else at the first later tick up to 2^32 at which it is
abbrev pub IsLineNext : Machine → ℕ → Line → Option ℕ → Type 0
IsLineNext m var line next = MatchBool (is_within_quantum m var line.x line.level) (IsDue m line.tick var line next) (next ≡ Some line.tick)

-- it then sends a level that its rule allows, and that the rule's function may return for this
-- state, old level and unit
pub record SendsLevel (m : Machine) (name : Option Rule) (Answers : ℤ → ℤ → ℤ → ℤ → Type 0) (var : ℕ) (line : Line) (tick : ℕ) (sent : Message) : Type 0 where
  pub level : ℤ
  pub allowed : IsAnswer name (state_at line tick) line.level (level_unit m) level
  pub ruled : Answers (state_at line tick) line.level (level_unit m) level
  pub told : sent ≡ Level var level

-- it takes that level at that tick
pub record TakesLevel (var : ℕ) (old : Line) (tick : ℕ) (sent : Message) (new : Line) : Type 0 where
  pub level : ℤ
  pub told : sent ≡ Level var level
  pub taken : new ≡ record { tick = tick; x = state_at old tick; slope = old.slope; level = level }

-- its line from a tick on
abbrev pub line_moved : Line → ℕ → Line
line_moved line tick = record line { tick = tick; x = state_at line tick }

-- the line after the slope or the state of its variable is set
abbrev pub line_told : ℕ → Line → Message → Line
line_told var line (Slope other slope) = if other == var then record line { slope = slope } else line
line_told var line (State other state) = if other == var then record line { x = state } else line
line_told var line (Level other level) = line
line_told var line (Discrete other value) = line
line_told var line (Truth condition now) = line

-- the line after a message: it moves to the message's tick and takes the new value
abbrev pub line_after_message : ℕ → Line → ℕ → Message → Line
line_after_message var line tick message = line_told var (line_moved line tick) message
