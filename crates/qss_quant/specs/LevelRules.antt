-- Defines the rules by which a quantizer selects new levels, and their contract.
use Rattle.std.specs.Prelude.{◌≡◌, ℤ, Option, Some}
use Rattle.mu_num.specs.Sizes.{IsWithin, IsPositiveWithin}
use Rattle.mu_num.specs.Levels.{IsWithinOneLevel, floor_level, near_level, inward_level}
use Rattle.mu_num.specs.Limits.{IsLevel}
use Rattle.qss_quant.specs.declared.quantizer.Rule.{Rule}
use Rattle.qss_quant.specs.declared.quantizer.Rule.TheVariants.{Floor, Near, Inward}

-- the level that a named rule selects for a state and its old level; a level is `unit` units of a
-- state
abbrev pub level_by : Rule → ℤ → ℤ → ℤ → ℤ
level_by Floor unit state old = floor_level unit state old
level_by Near unit state old = near_level unit state old
level_by Inward unit state old = inward_level unit state old

-- a state, an old level and a unit within the limits for which a rule is defined
pub record IsAsked (state old unit : ℤ) : Type 0 where
  pub small_state : IsWithin 89 state
  pub small_old : IsLevel old
  pub small_unit : IsPositiveWithin 44 unit

-- a result is less than one level away from the state; if the rule has a name, it is the result of
-- that rule
pub record IsAnswer (name : Option Rule) (state old unit answer : ℤ) : Type 0 where
  pub close : IsWithinOneLevel unit state old answer
  pub named : (rule : Rule) → name ≡ Some rule → answer ≡ level_by rule unit state old
