-- The rules that select the slope of a level in a second-order run.
use Rattle.std.specs.Prelude.{◌≡◌, ℤ, Bool, true}
use Rattle.mu_num.specs.Sizes.{IsWithin, IsPositiveWithin}
use Rattle.qss_order2.specs.SecondSteps.{FreeChange, nearest_change}

-- the domain of a rule: a slope and a unit within their limits
pub record IsAsked (rise unit : ℤ) : Type 0 where
  pub small_rise : IsWithin 95 rise
  pub small_unit : IsPositiveWithin 44 unit

-- a result that the free rule allows, and that is the nearest one if `nearest` is true
pub record IsAnswer (nearest : Bool) (rise unit answer : ℤ) : Type 0 where
  pub close : FreeChange unit rise answer
  pub named : nearest ≡ true → answer ≡ nearest_change unit rise

-- a level slope that a rule may select for a unit and a slope
abbrev pub IsRuled2 : Bool → ℤ → ℤ → ℤ → Type 0
IsRuled2 nearest unit rise new = IsAnswer nearest rise unit new
