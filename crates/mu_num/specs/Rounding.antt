-- Integer quotients, rounded down, up and to the nearest integer.
use Rattle.std.specs.Prelude.{◌≡◌, ◌*◌, ◌%◌, ◌≤◌, ℤ, pos, ◌+ℤ◌, ◌-ℤ◌, ◌*ℤ◌, ◌≤ℤ◌, ◌<ℤ◌, neg_ℤ, unsigned_abs, int_lt, ◌==◌, if◌then◌else◌}
use Rattle.std.specs.Int.{int_div_euclid}

-- q is the greatest integer that is at most n / d
pub record IsFloor (n d q : ℤ) : Type 0 where
  pub at_most : (d *ℤ q) ≤ℤ n
  pub greatest : n <ℤ (d *ℤ q +ℤ d)

-- q is the least integer that is at least n / d
pub record IsCeiling (n d q : ℤ) : Type 0 where
  pub at_least : n ≤ℤ (d *ℤ q)
  pub least : (d *ℤ q -ℤ d) <ℤ n

-- q is the integer nearest to n / d, ties to even
pub record IsNearest (n d q : ℤ) : Type 0 where
  pub near : 2 * unsigned_abs (n -ℤ d *ℤ q) ≤ unsigned_abs d
  pub even : 2 * unsigned_abs (n -ℤ d *ℤ q) ≡ unsigned_abs d → unsigned_abs q % 2 ≡ 0

-- n / d rounded down, for positive d
abbrev pub floor_of : ℤ → ℤ → ℤ
floor_of n d = int_div_euclid n d

-- n / d rounded up, for positive d
abbrev pub ceiling_of : ℤ → ℤ → ℤ
ceiling_of n d = neg_ℤ (floor_of (neg_ℤ n) d)

-- the even one of two consecutive integers
abbrev pub even_of : ℤ → ℤ → ℤ
even_of a b = if unsigned_abs a % 2 == 0 then a else b

-- n / d rounded to the nearest integer, ties to even, for positive d
abbrev pub nearest_of : ℤ → ℤ → ℤ
nearest_of n d =
    let q = floor_of n d in
    let twice = pos 2 *ℤ (n -ℤ d *ℤ q) in
    if int_lt twice d then q else if int_lt d twice then q +ℤ pos 1 else even_of q (q +ℤ pos 1)

-- for all integers n and positive d: the functions satisfy the defining inequalities, and these
-- have one solution each
pub record QuotientsAreRight : Type 0 where
  pub floor_meets : (n d : ℤ) → pos 0 <ℤ d → IsFloor n d (floor_of n d)
  pub ceiling_meets : (n d : ℤ) → pos 0 <ℤ d → IsCeiling n d (ceiling_of n d)
  pub nearest_meets : (n d : ℤ) → pos 0 <ℤ d → IsNearest n d (nearest_of n d)
  pub one_floor : (n d a b : ℤ) → pos 0 <ℤ d → IsFloor n d a → IsFloor n d b → a ≡ b
  pub one_ceiling : (n d a b : ℤ) → pos 0 <ℤ d → IsCeiling n d a → IsCeiling n d b → a ≡ b
  pub one_nearest : (n d a b : ℤ) → pos 0 <ℤ d → IsNearest n d a → IsNearest n d b → a ≡ b
