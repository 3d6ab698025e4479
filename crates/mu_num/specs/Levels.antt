-- The level that a quantizer rule assigns to a state; one level is `unit` units of a state.
use Rattle.std.specs.Prelude.{ℤ, pos, ◌-ℤ◌, ◌*ℤ◌, ◌<ℤ◌, unsigned_abs, int_lt, if◌then◌else◌}
use Rattle.mu_num.specs.Rounding.{floor_of, ceiling_of, nearest_of}

-- the free rule allows any level less than one level away from the state
abbrev pub IsWithinOneLevel : ℤ → ℤ → ℤ → ℤ → Type 0
IsWithinOneLevel unit state old new = pos (unsigned_abs (state -ℤ unit *ℤ new)) <ℤ unit

-- the greatest level that is at most the state
abbrev pub level_below : ℤ → ℤ → ℤ
level_below unit state = floor_of state unit

-- the rule that takes this level, whatever the old level
abbrev pub floor_level : ℤ → ℤ → ℤ → ℤ
floor_level unit state old = level_below unit state

-- the level nearest to the state, ties to even
abbrev pub near_level : ℤ → ℤ → ℤ → ℤ
near_level unit state old = nearest_of state unit

-- the level next to the state on the side of the old level: floor if the state is above the old
-- level, else ceiling
abbrev pub inward_level : ℤ → ℤ → ℤ → ℤ
inward_level unit state old = if int_lt (unit *ℤ old) state then floor_of state unit else ceiling_of state unit

-- each named rule returns a level that the free rule allows
pub record RulesStayWithinOneLevel : Type 0 where
  pub floor : (unit state old : ℤ) → pos 0 <ℤ unit → IsWithinOneLevel unit state old (floor_level unit state old)
  pub near : (unit state old : ℤ) → pos 0 <ℤ unit → IsWithinOneLevel unit state old (near_level unit state old)
  pub inward : (unit state old : ℤ) → pos 0 <ℤ unit → IsWithinOneLevel unit state old (inward_level unit state old)
