-- A crossing: the form of a condition along the lines of its variables, and its transitions.
use Rattle.std.specs.Prelude.{◌≡◌, ℕ, ◌+◌, ◌-◌, ◌*◌, ◌^◌, ◌<◌, ◌≤◌, ◌||◌, ◌==◌, ◌⊎◌, List, map, ℤ}
use Rattle.std.specs.Prelude.{pos, ◌+ℤ◌, ◌*ℤ◌, All, Option, if◌then◌else◌}
use Rattle.qss_machine.specs.declared.machine_parts.Entry.{Entry}
use Rattle.qss_machine.specs.declared.compiled_machine.Machine.{Machine}
use Rattle.qss_machine.specs.MachineLimits.{IsBounded}
use Rattle.qss_machine.specs.Machines.{state_count, discrete_count, level_unit, compares}
use Rattle.mu_num.specs.IndexedSums.{sum_over}
use Rattle.mu_num.specs.Limits.{IsState, IsSlope}
use Rattle.qss_cross.specs.Crossing.{DetectorView, value_at}
use Rattle.qss_events.specs.Schedules.{IsChange}
use Rattle.qss_components.specs.declared.crossing_model.Input.{Input}
use Rattle.qss_components.specs.declared.atomic.Message.{Message}
use Rattle.qss_components.specs.declared.atomic.Message.TheVariants.{Slope, State, Level, Discrete}
use Rattle.qss_components.specs.declared.atomic.Message.TheVariants.{Truth}

-- the condition's number, its detector, the lines of its variables, and its form's coefficient of
-- time and constant
pub record Crossing : Type 0 where
  pub place : ℕ
  pub detector : DetectorView
  pub inputs : List Input
  pub time : ℤ
  pub gamma : ℤ

-- the value of an input at a tick
abbrev pub input_at : ℕ → Input → ℤ
input_at tick i = i.at +ℤ pos (tick - i.tick) *ℤ i.speed

-- the value at a tick of a form with these inputs
abbrev pub form_at : Machine → List Input → ℤ → ℤ → ℕ → ℤ
form_at m inputs time gamma tick =
    sum_over (λ i. i.coef *ℤ input_at tick i) inputs +ℤ time *ℤ pos (tick * 2 ^ (m.f + m.p)) +ℤ gamma *ℤ level_unit m

-- the increment of the form per tick
abbrev pub speed_by : Machine → List Input → ℤ → ℤ
speed_by m inputs time = sum_over (λ i. i.coef *ℤ i.speed) inputs +ℤ time *ℤ pos (2 ^ (m.f + m.p))

-- the next transition is at the first later tick up to 2^32 at which the truth value changes, if
-- there is one
abbrev pub IsCrossingNext : DetectorView → Option ℕ → Type 0
IsCrossingNext w next = IsChange w.tick (compares w.rel w.value) w next

-- the crossing after its internal transition at a tick
abbrev pub crossing_after_transition : Crossing → ℕ → Crossing
crossing_after_transition c tick = record c { detector = record { rel = c.detector.rel; tick = tick; value = value_at c.detector tick; speed = c.detector.speed } }

-- on arrival at a tick a crossing is unchanged, or makes its transition
abbrev pub IsRead : ℕ → Crossing → Crossing → Type 0
IsRead tick old new = (new ≡ old) ⊎ (new ≡ crossing_after_transition old tick)

-- an input after a message; outside handlers, a discrete variable and its value before the tick are
-- equal
abbrev pub input_after_message : Machine → ℕ → Message → Input → Input
input_after_message m tick (Slope var slope) i = if i.var == var then record i { tick = tick; at = input_at tick i; speed = slope } else i
input_after_message m tick (State var state) i = if i.var == var then record i { tick = tick; at = state } else i
input_after_message m tick (Discrete var value) i =
    if i.var == var || i.var == var + discrete_count m then record i { tick = tick; at = value *ℤ level_unit m; speed = pos 0 } else i
input_after_message m tick (Level var level) i = i
input_after_message m tick (Truth condition now) i = i

-- the crossing after a message: its detector moves to the message's tick, with the value and
-- increment of its inputs there
abbrev pub crossing_after_message : Machine → Crossing → ℕ → Message → Crossing
crossing_after_message m c tick message =
    let inputs = map (input_after_message m tick message) c.inputs in
    record c {
      detector = record {
        rel = c.detector.rel;
        tick = tick;
        value = form_at m inputs c.time c.gamma tick;
        speed = speed_by m inputs c.time;
      };
      inputs = inputs;
    }

-- each state of the form is within its limit at a tick
abbrev pub AreSmallAt : Machine → List Input → ℕ → Type 0
AreSmallAt m inputs tick = All (λ i. i.var < state_count m → IsState (input_at tick i)) inputs

-- an input within its limits, whose line starts at or before a tick
pub record IsInput (now : ℕ) (i : Input) : Type 0 where
  pub not_later : i.tick ≤ now
  pub small : IsState i.at
  pub slow : IsSlope i.speed

-- the line of a discrete variable is constant; states come first
abbrev pub StaysIfDiscrete : ℕ → Input → Type 0
StaysIfDiscrete states i = states ≤ i.var → i.speed ≡ pos 0

-- the entry of an input
abbrev pub entry_of : Input → Entry
entry_of i = record { var = i.var; coef = i.coef }

-- the coefficients and the constant of a form with these inputs are within their limits
abbrev pub AreParts : List Input → ℤ → ℤ → Type 0
AreParts inputs time gamma = IsBounded (record { entries = map entry_of inputs; time = time; gamma = gamma })
