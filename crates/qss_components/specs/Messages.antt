-- Messages to components, and the ticks at which a component may receive one.
use Rattle.std.specs.Prelude.{ℕ, ◌+◌, ◌<◌, ◌≤◌, Bool, false, Option, Some}
use Rattle.mu_num.specs.Sizes.{exceeds}
use Rattle.mu_num.specs.Limits.{tick_limit, bits_of_level, bits_of_slope, IsLevel, IsState, IsSlope}
use Rattle.qss_machine.specs.declared.compiled_machine.Machine.{Machine}
use Rattle.qss_machine.specs.Machines.{state_count, discrete_count}
use Rattle.qss_components.specs.declared.atomic.Message.{Message}
use Rattle.qss_components.specs.declared.atomic.Message.TheVariants.{Slope, State, Level, Discrete}
use Rattle.qss_components.specs.declared.atomic.Message.TheVariants.{Truth}

-- a message about a variable of the machine, within the limits
abbrev pub IsMessage : Machine → Message → Type 0
IsMessage m (Slope var slope) = (var < state_count m) × IsSlope slope
IsMessage m (State var state) = (var < state_count m) × IsState state
IsMessage m (Level var level) = (var < state_count m) × IsLevel level
IsMessage m (Discrete var value) = (state_count m ≤ var) × (var < state_count m + discrete_count m) × IsLevel value
IsMessage m (Truth condition now) = Unit {0}

-- the level of a message is within its limit
abbrev pub HasSmallLevel : Message → Type 0
HasSmallLevel (Level var level) = IsLevel level
HasSmallLevel (Slope var slope) = Unit {0}
HasSmallLevel (State var state) = Unit {0}
HasSmallLevel (Discrete var value) = Unit {0}
HasSmallLevel (Truth condition now) = Unit {0}

-- whether the level or the slope of a message exceeds its limit
abbrev pub passes_limit : Message → Bool
passes_limit (Slope var slope) = exceeds bits_of_slope slope
passes_limit (State var state) = false
passes_limit (Level var level) = exceeds bits_of_level level
passes_limit (Discrete var value) = false
passes_limit (Truth condition now) = false

-- a tick below 2^32 that is not before a component's last transition and not after its next one
pub record IsTimely (own : ℕ) (IsNext : Option ℕ → Type 0) (tick : ℕ) : Type 0 where
  pub not_before : own ≤ tick
  pub in_time : tick < tick_limit
  pub not_past : (next : ℕ) → IsNext (Some next) → tick ≤ next
