-- The limits of a certificate's numbers.
use Rattle.std.specs.Prelude.{◌≡◌, ℕ, ◌≤◌, List, length, ℤ, unsigned_abs, All}
use Rattle.mu_num.specs.Limits.{sum_limit}

-- from 1 to 16 states
pub record IsSize (n : ℕ) : Type 0 where
  pub some : 1 ≤ n
  pub few : n ≤ 16

-- at most 2^126 in absolute value
abbrev pub IsNumber : ℤ → Type 0
IsNumber z = unsigned_abs z ≤ sum_limit

-- one number for each state
pub record IsVector (n : ℕ) (numbers : List ℤ) : Type 0 where
  pub one_each : length numbers ≡ n
  pub each : All IsNumber numbers

-- one row of numbers for each state
pub record IsSquareTable (n : ℕ) (rows : List (List ℤ)) : Type 0 where
  pub one_each : length rows ≡ n
  pub each : All (IsVector n) rows
