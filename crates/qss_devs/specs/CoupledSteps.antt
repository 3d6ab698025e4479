-- The effects of the steps of one tick: assignments, levels and slopes.
use Rattle.std.specs.Prelude.{◌≡◌, ℕ, zero, suc, ◌<◌, ◌++◌, true, false, List, [], ◌∷◌, ℤ}
use Rattle.std.specs.Prelude.{slice_set, flat_map, Option, Some, None, position, if◌then◌else◌}
use Rattle.std.specs.List.{range_with_len}
use Rattle.std.specs.Ordering.{int_eq}
use Rattle.mu_num.specs.Sizes.{exceeds}
use Rattle.qss_machine.specs.declared.machine_parts.Row.{Row}
use Rattle.qss_machine.specs.declared.machine_parts.RowKind.TheVariants as kind
use Rattle.qss_machine.specs.declared.compiled_machine.Machine.{Machine}
use Rattle.mu_num.specs.IndexedSums.{int_at, tabulate, first_exceeding}
use Rattle.mu_num.specs.Limits.{bits_of_level, IsLevel, IsSlope}
use Rattle.qss_machine.specs.Machines.{state_count, level_unit, row_at, slope_at}
use Rattle.qss_machine.specs.Ticks.{AreNextLevels, is_within_quantum, exceeds_row_limits}
use Rattle.qss_machine.specs.Runs.{level_rows}
use Rattle.qss_quant.specs.declared.quantizer.Rule.{Rule}
use Rattle.qss_quant.specs.LevelRules.{level_by}
use Rattle.qss_events.specs.AllowedLevels.{IsAllowedLevel}
use Rattle.qss_components.specs.declared.atomic.Message.TheVariants.{State, Discrete}
use Rattle.qss_components.specs.Messages.{IsMessage}
use Rattle.qss_components.specs.Agreement.{Values, HasEach, Agree}
use Rattle.qss_devs.specs.declared.coupled_messages.Components.{Components}
use Rattle.qss_devs.specs.Coupling.{line_at, function_state_at, crossing_at}

-- the message for a row of a handler is within the limits
pub record IsMessageOfRow (m : Machine) (row : Row) : Type 0 where
  pub set : row.kind ≡ kind.Set → IsMessage m (Discrete row.var row.level)
  pub reinit : row.kind ≡ kind.Reinit → IsMessage m (State row.var row.state)

-- the rule of a quantizer has a name, and so is a function of the state and its old level
abbrev pub IsNamed : Option Rule → Type 0
IsNamed name = (rule : Rule) × (name ≡ Some rule)

-- components agree with values at a tick
abbrev pub Agrees : {X : Type 0} {g : _} → Machine → ℕ → Values → Components X g → Type 0
Agrees {X} {g} m tick v parts = Agree m tick v (line_at parts) (function_state_at parts) (crossing_at parts)

-- values of each variable, with levels and slopes within their limits
pub record AreValues (m : Machine) (v : Values) : Type 0 where
  pub each : HasEach m v
  pub small : (j : ℕ) → j < state_count m → IsLevel (int_at v.levels j)
  pub slow : (j : ℕ) → j < state_count m → IsSlope (int_at v.slopes j)

-- the level of a state after the tick, under a named rule
abbrev pub level_after : Machine → Rule → Values → ℕ → ℤ
level_after m rule v j =
    if is_within_quantum m j (int_at v.states j) (int_at v.levels j) then int_at v.levels j else level_by rule (level_unit m) (int_at v.states j) (int_at v.levels j)

-- the row of a state, if its level changes
abbrev pub row_after : Machine → Rule → ℕ → Values → ℕ → List Row
row_after m rule tick v j =
    if int_eq (int_at v.levels j) (level_after m rule v j) then []
    else record { tick = tick; kind = kind.Level; var = j; level = level_after m rule v j; state = int_at v.states j } ∷ []

-- a list of which the first n numbers are replaced by those of f
abbrev pub replaced_upto : (ℕ → ℤ) → List ℤ → ℕ → List ℤ
replaced_upto f xs zero = xs
replaced_upto f xs (suc n) = slice_set (replaced_upto f xs n) n (f n)

-- the values after the transitions of the first n integrators
abbrev pub leveled : Machine → Rule → Values → ℕ → Values
leveled m rule v n = record v { levels = replaced_upto (level_after m rule v) v.levels n }

-- the first n integrators made their transitions, and no level exceeds its limit
pub record AreTakenUpTo {X : Type 0} {g : _} (m : Machine) (rule : Rule) (tick : ℕ) (v : Values) (n : ℕ) (parts : Components X g) (old new : List Row) : Type 0 where
  pub agree : Agrees m tick (leveled m rule v n) parts
  pub small : (i : ℕ) → i < n → IsLevel (level_after m rule v i)
  pub rows : new ≡ old ++ flat_map (row_after m rule tick v) (range_with_len 0 n)

-- the values after the transitions of the first n functions
abbrev pub sloped : Machine → Values → ℕ → Values
sloped m v n =
    record v { slopes = replaced_upto (λ j. slope_at m j v.levels v.discretes) v.slopes n }

-- the first n functions made their transitions, and no row exceeds its limits
pub record AreSentUpTo {X : Type 0} {g : _} (m : Machine) (tick : ℕ) (v : Values) (n : ℕ) (parts : Components X g) : Type 0 where
  pub agree : Agrees m tick (sloped m v n) parts
  pub light : (i : ℕ) → i < n → exceeds_row_limits m v.levels v.discretes (row_at m i) ≡ false
  pub sent : (i : ℕ) → i < n → (function_state_at parts i).changed ≡ None

-- an integrator took its level and sent it, with a row if it changed, unless it exceeds its limit
pub record IsLevelTaken {X : Type 0} {g : _} (m : Machine) (rule : Rule) (tick : ℕ) (v : Values) (j : ℕ) (parts : Components X g) (old new : List Row) (over : Option ℕ) : Type 0 where
  pub own_over : over ≡ (if exceeds bits_of_level (level_after m rule v j) then Some j else None)
  pub agree : over ≡ None → Agrees m tick (record v { levels = slice_set v.levels j (level_after m rule v j) }) parts
  pub rows : over ≡ None → new ≡ old ++ row_after m rule tick v j

-- a function sent the slope of its row, unless the row exceeds its limits
pub record IsSlopeSent {X : Type 0} {g : _} (m : Machine) (tick : ℕ) (v : Values) (j : ℕ) (parts : Components X g) (over : Option ℕ) : Type 0 where
  pub own_over : over ≡ (if exceeds_row_limits m v.levels v.discretes (row_at m j) then Some j else None)
  pub agree : over ≡ None → Agrees m tick (record v { slopes = slice_set v.slopes j (slope_at m j v.levels v.discretes) }) parts
  pub sent : over ≡ None → (function_state_at parts j).changed ≡ None

-- each state is less than a quantum from its level
abbrev pub AreWithinQuanta : Machine → Values → Type 0
AreWithinQuanta m v = (j : ℕ) → j < state_count m → is_within_quantum m j (int_at v.states j) (int_at v.levels j) ≡ true

-- all integrators took levels that their rule allows and sent them, with a row for each change,
-- unless one exceeds its limit
pub record AreTaken {X : Type 0} {g : _} (m : Machine) (name : Option Rule) (tick : ℕ) (v : Values) (parts : Components X g) (old new : List Row) (over : Option ℕ) : Type 0 where
  pub levels : List ℤ
  pub allowed : AreNextLevels (IsAllowedLevel name) m v.states v.levels levels
  pub own_over : over ≡ first_exceeding bits_of_level levels
  pub agree : over ≡ None → Agrees m tick (record v { levels = levels }) parts
  pub rows : over ≡ None → new ≡ old ++ level_rows tick v.levels levels v.states

-- all functions sent the slopes at these levels and discrete values, unless a row exceeds its
-- limits
pub record AreSent {X : Type 0} {g : _} (m : Machine) (tick : ℕ) (v : Values) (parts : Components X g) (over : Option ℕ) : Type 0 where
  pub own_over : over ≡ position (exceeds_row_limits m v.levels v.discretes) m.rows
  pub agree : over ≡ None → Agrees m tick (record v { slopes = tabulate (state_count m) (λ j. slope_at m j v.levels v.discretes) }) parts
  pub sent : over ≡ None → (j : ℕ) → j < state_count m → (function_state_at parts j).changed ≡ None
