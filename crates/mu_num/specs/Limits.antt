-- The limits of the numbers and lists of a machine, of its runs and of its texts.
use Rattle.std.specs.Prelude.{ℕ, ◌^◌, List, ℤ, All}
use Rattle.mu_num.specs.Sizes.{IsWithin, IsPositiveWithin}

-- the greatest number of states and discrete variables together
abbrev pub variable_limit : ℕ
variable_limit = 4096

-- the greatest total number of conditions and statements
abbrev pub condition_limit : ℕ
condition_limit = 16384

-- the last tick of the search for a tick: the last tick of a machine is before it
abbrev pub tick_limit : ℕ
tick_limit = 2 ^ 32

-- the greatest quantum, in levels
abbrev pub quantum_limit : ℕ
quantum_limit = 2 ^ 32

-- the unit of a relative quantum is this part of a level's size
abbrev pub relative_unit : ℕ
relative_unit = 4096

-- the greatest relative quantum
abbrev pub relative_limit : ℕ
relative_limit = 2048

-- the places that the wheel of the event queue has for each tick
abbrev pub wheel_places : ℕ
wheel_places = 4096

-- the ticks from one limit check of a second-order run to the next
abbrev pub look_span : ℕ
look_span = 65536

-- the greatest absolute value in the exact sums of a certificate
abbrev pub sum_limit : ℕ
sum_limit = 2 ^ 126

-- the greatest length of a model in bytes
abbrev pub model_length_limit : ℕ
model_length_limit = 2 ^ 20

-- the greatest length of a certificate in bytes
abbrev pub certificate_length_limit : ℕ
certificate_length_limit = 2 ^ 18

-- the greatest length of a trace in bytes
abbrev pub trace_length_limit : ℕ
trace_length_limit = 2 ^ 24

-- the bits of a level and of the value of a discrete variable
abbrev pub bits_of_level : ℕ
bits_of_level = 43

-- the bits of a state
abbrev pub bits_of_state : ℕ
bits_of_state = 88

-- the bits of a slope
abbrev pub bits_of_slope : ℕ
bits_of_slope = 88

-- the bits of an absolute row sum
abbrev pub bits_of_weight : ℕ
bits_of_weight = 88

-- the bits of a level in a second-order run, at a limit check
abbrev pub bits_of_second_level : ℕ
bits_of_second_level = 49

-- the bits of a state, a slope and an absolute row sum in a second-order run, at a limit check
abbrev pub bits_of_second_state : ℕ
bits_of_second_state = 94

-- a level or the value of a discrete variable is within its limit
abbrev pub IsLevel : ℤ → Type 0
IsLevel = IsWithin bits_of_level

-- levels or values of discrete variables are within their limit
abbrev pub AreLevels : List ℤ → Type 0
AreLevels = All IsLevel

-- a quantum is positive and within the limit of a level
abbrev pub IsQuantum : ℤ → Type 0
IsQuantum = IsPositiveWithin bits_of_level

-- a state is within its limit
abbrev pub IsState : ℤ → Type 0
IsState = IsWithin bits_of_state

-- states are within their limit
abbrev pub AreStates : List ℤ → Type 0
AreStates = All IsState

-- a slope is within its limit
abbrev pub IsSlope : ℤ → Type 0
IsSlope = IsWithin bits_of_slope

-- slopes are within their limit
abbrev pub AreSlopes : List ℤ → Type 0
AreSlopes = All IsSlope

-- an absolute row sum is within its limit
abbrev pub IsWeight : ℤ → Type 0
IsWeight = IsWithin bits_of_weight

-- a level of a second-order run is within its limit
abbrev pub IsSecondLevel : ℤ → Type 0
IsSecondLevel = IsWithin bits_of_second_level

-- a state, a slope or the bend of a second-order run is within its limit
abbrev pub IsSecondState : ℤ → Type 0
IsSecondState = IsWithin bits_of_second_state
