-- Defines the values that handlers read and write.
use Rattle.std.specs.Prelude.{ℕ, List, ℤ}
use Rattle.qss_machine.specs.declared.machine_parts.Row.{Row}

-- states, discrete values, discrete values before the tick, the tick, its rows, and the capacity
-- for rows
pub record Values : Type 0 where
  pub x : List ℤ
  pub d : List ℤ
  pub pre : List ℤ
  pub tick : ℕ
  pub log : List Row
  pub room : ℕ
