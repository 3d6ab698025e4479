-- Defines lines of integrators (constant slope), and when a state has left its quantum.
use Rattle.std.specs.Prelude.{ℕ, ◌^◌, ◌≤◌, ◌-◌, ℤ, pos, ◌+ℤ◌, ◌-ℤ◌, ◌*ℤ◌, ◌<ℤ◌, ◌≤ℤ◌, unsigned_abs}
use Rattle.mu_num.specs.Sizes.{IsWithin}
use Rattle.mu_num.specs.Limits.{tick_limit, IsLevel, IsSlope}

-- a state at a tick, its slope per tick, and its level
pub record Line : Type 0 where
  pub tick : ℕ
  pub x : ℤ
  pub slope : ℤ
  pub level : ℤ

-- the state at a tick, if the slope stays constant
abbrev pub state_at : Line → ℕ → ℤ
state_at i tick = i.x +ℤ pos (tick - i.tick) *ℤ i.slope

-- a state is less than one quantum away from its level; a level is `unit` units of a state
abbrev pub IsLineWithinQuantum : ℤ → ℤ → ℤ → ℤ → Type 0
IsLineWithinQuantum unit state level quantum = pos (unsigned_abs (state -ℤ unit *ℤ level)) <ℤ (unit *ℤ quantum)

-- a state is at least one quantum away from its level
abbrev pub IsAway : ℤ → ℤ → ℤ → ℤ → Type 0
IsAway unit state level quantum = (unit *ℤ quantum) ≤ℤ pos (unsigned_abs (state -ℤ unit *ℤ level))

-- the tick, the state, the slope and the level of an integrator are within their limits
pub record IsLine (i : Line) : Type 0 where
  pub in_time : i.tick ≤ tick_limit
  pub small_state : IsWithin 89 i.x
  pub small_slope : IsSlope i.slope
  pub small_level : IsLevel i.level
