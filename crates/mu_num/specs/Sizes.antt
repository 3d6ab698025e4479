-- Bounds on the absolute value of integers.
use Rattle.std.specs.Prelude.{ℕ, ◌^◌, ◌≤◌, Bool, ℤ, pos, ◌≤ℤ◌, unsigned_abs, nat_lt}

-- the absolute value is at most 2^bits
abbrev pub IsWithin : ℕ → ℤ → Type 0
IsWithin bits z = unsigned_abs z ≤ 2 ^ bits

-- the absolute value exceeds 2^bits
abbrev pub exceeds : ℕ → ℤ → Bool
exceeds bits z = nat_lt (2 ^ bits) (unsigned_abs z)

-- from 1 to 2^bits
pub record IsPositiveWithin (bits : ℕ) (z : ℤ) : Type 0 where
  pub from_one : pos 1 ≤ℤ z
  pub within : IsWithin bits z
