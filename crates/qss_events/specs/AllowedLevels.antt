-- Defines the levels that a quantizer allows.
use Rattle.std.specs.Prelude.{ℤ, Option}
use Rattle.qss_quant.specs.declared.quantizer.Rule.{Rule}
use Rattle.qss_quant.specs.LevelRules.{IsAnswer}

-- a level that a quantizer with this name may select for a unit, a state and the old level
abbrev pub IsAllowedLevel : Option Rule → ℤ → ℤ → ℤ → ℤ → Type 0
IsAllowedLevel name unit state old new = IsAnswer name state old unit new
