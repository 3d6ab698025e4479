-- Fractions. Two fractions have the same value if their cross products are equal.
use Rattle.std.specs.Prelude.{ℕ, ℤ, pos, negsuc, ◌+ℤ◌, ◌-ℤ◌, ◌*ℤ◌, ◌*◌, ◌%◌, ◌^◌, ◌≤◌, ◌<◌, ◌≡◌, Bool, ◌&&◌, nat_eq, nat_le, Result, Ok, Err, if◌then◌else◌, int_div, unsigned_abs}
use Prim.Native.Nat.{◌∣◌, zero, suc}
use Rattle.mu_num.specs.declared.NumErr.{NumErr}
use Rattle.mu_num.specs.declared.NumErr.TheVariants.{Range, ZeroDivisor}

-- a numerator and a denominator
pub record Fraction : Type 0 where
  pub num : ℤ
  pub den : ℕ

-- equal values, by cross multiplication
abbrev pub IsSameValue : Fraction → Fraction → Type 0
IsSameValue a b = a.num *ℤ pos b.den ≡ b.num *ℤ pos a.den

-- an integer as a fraction
abbrev pub whole : ℤ → Fraction
whole n = record { num = n; den = 1 }

-- the exact sum
abbrev pub sum : Fraction → Fraction → Fraction
sum a b = record { num = a.num *ℤ pos b.den +ℤ b.num *ℤ pos a.den; den = a.den * b.den }

-- the exact difference
abbrev pub difference : Fraction → Fraction → Fraction
difference a b = record { num = a.num *ℤ pos b.den -ℤ b.num *ℤ pos a.den; den = a.den * b.den }

-- the exact product
abbrev pub product : Fraction → Fraction → Fraction
product a b = record { num = a.num *ℤ b.num; den = a.den * b.den }

-- the sign of a number: 1 or -1, and 1 for 0
abbrev pub sign : ℤ → ℤ
sign (pos n) = pos 1
sign (negsuc n) = negsuc 0

-- the exact quotient for a nonzero divisor; the sign is in the numerator
abbrev pub quotient : Fraction → Fraction → Fraction
quotient a b = record { num = (a.num *ℤ pos b.den) *ℤ sign b.num; den = a.den * unsigned_abs b.num }

-- the exact power
unfoldable pub power : Fraction → ℕ → Fraction
power a zero = whole (pos 1)
power a (suc k) = product (power a k) a

-- the least of k, k + 1, .., k + more whose product with n is a multiple of d
unfoldable pub least_multiplier : (more k n d : ℕ) → ℕ
least_multiplier zero k n d = k
least_multiplier (suc more) k n d = if nat_eq ((n * k) % d) 0 then k else least_multiplier more (suc k) n d

-- the denominator in lowest terms
unfoldable pub least_denominator : Fraction → ℕ
least_denominator a = least_multiplier a.den 1 (unsigned_abs a.num) a.den

-- the fraction in lowest terms: its value with the least denominator
unfoldable pub lowest : Fraction → Fraction
lowest a = record { num = int_div (a.num *ℤ pos (least_denominator a)) (pos a.den); den = least_denominator a }

-- both terms are at most 2^62 in absolute value
abbrev pub is_small : Fraction → Bool
is_small a = nat_le (unsigned_abs a.num) (2 ^ 62) && nat_le a.den (2 ^ 62)

-- the value in lowest terms, or Range if a term exceeds 2^62
unfoldable pub checked : Fraction → Result Fraction NumErr
checked a = if is_small (lowest a) then Ok (lowest a) else Err Range

-- the quotient in lowest terms, or ZeroDivisor, or Range
abbrev pub checked_quotient : Fraction → Fraction → Result Fraction NumErr
checked_quotient a b = if nat_eq (unsigned_abs b.num) 0 then Err ZeroDivisor else checked (quotient a b)

-- only 1 divides both numbers
abbrev pub IsCoprime : ℕ → ℕ → Type 0
IsCoprime a b = (d : ℕ) → d ∣ a → d ∣ b → d ≡ 1

-- in lowest terms, with terms of at most 2^62 and a positive denominator
pub record IsReduced (a : Fraction) : Type 0 where
  pub positive : 0 < a.den
  pub coprime : IsCoprime (unsigned_abs a.num) a.den
  pub small_num : unsigned_abs a.num ≤ 2 ^ 62
  pub small_den : a.den ≤ 2 ^ 62

-- reduction keeps the value and a positive denominator, leaves no common divisor, and is unique for
-- each value
pub record LowestTermsAreRight : Type 0 where
  pub positive : (a : Fraction) → 0 < a.den → 0 < (lowest a).den
  pub value : (a : Fraction) → 0 < a.den → IsSameValue (lowest a) a
  pub coprime : (a : Fraction) → 0 < a.den → IsCoprime (unsigned_abs (lowest a).num) (lowest a).den
  pub only : (a b : Fraction) → 0 < a.den → 0 < b.den → IsSameValue a b → lowest a ≡ lowest b
