-- Defines zero-crossing detectors: values that change at a constant speed and are compared with 0.
use Rattle.std.specs.Prelude.{◌≡◌, ◌≢◌, ℕ, ◌-◌, ◌<◌, ◌≤◌, ◌^◌, Bool, ℤ, pos, ◌+ℤ◌, ◌*ℤ◌, unsigned_abs}
use Rattle.mu_num.specs.Limits.{tick_limit}
use Rattle.qss_machine.specs.declared.machine_parts.Rel.{Rel}
use Rattle.qss_machine.specs.declared.machine_parts.Rel.TheVariants.{Less, LessEq, Greater, GreaterEq}
use Rattle.qss_machine.specs.Machines.{compares}

-- a zero-crossing detector: a value at a tick, its change per tick, and its comparison with 0
pub record DetectorView : Type 0 where
  pub rel : Rel
  pub tick : ℕ
  pub value : ℤ
  pub speed : ℤ

-- below 2 ^ 127 in absolute value
abbrev pub IsSmall : ℤ → Type 0
IsSmall z = unsigned_abs z < 2 ^ 127

-- the tick, the value and the speed of a detector are within their limits
pub record IsDetectorView (w : DetectorView) : Type 0 where
  pub in_time : w.tick ≤ tick_limit
  pub small_value : IsSmall w.value
  pub small_speed : IsSmall w.speed

-- the value at a tick, if the speed stays constant
abbrev pub value_at : DetectorView → ℕ → ℤ
value_at w tick = w.value +ℤ pos (tick - w.tick) *ℤ w.speed

-- whether the comparison holds at a tick, if the speed stays constant
abbrev pub holds_at : DetectorView → ℕ → Bool
holds_at w tick = compares w.rel (value_at w tick)

-- the threshold of a comparison with 0: it separates the values for which the comparison holds from
-- the others
abbrev pub bound_of : Rel → ℤ
bound_of Less = pos 0
bound_of LessEq = pos 1
bound_of Greater = pos 1
bound_of GreaterEq = pos 0

-- at a constant speed the truth of a comparison changes at most once
abbrev pub CrossesOnce : Type 0
CrossesOnce =
    (w : DetectorView) (first second third : ℕ) → w.tick ≤ first → first ≤ second → second ≤ third →
    holds_at w first ≢ holds_at w second → holds_at w third ≡ holds_at w second
