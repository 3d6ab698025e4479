-- The value of a number token: digits, an optional decimal point, and an optional exponent.
use Rattle.std.specs.Prelude.{◌≡◌, ◌≢◌, ℕ, zero, suc, pos, ◌+◌, ◌-◌, ◌*◌, ◌/◌, ◌%◌, ◌^◌, ◌≤◌, Bool, ◌&&◌, ◌||◌, nat_eq, nat_le, if◌then◌else◌, List, fold, count_by, Result, Ok, Err}
use Rattle.std.specs.List.{before_first, after_first, list_any}
use Rattle.mu_num.specs.declared.NumErr.{NumErr}
use Rattle.mu_num.specs.declared.NumErr.TheVariants.{Range}
use Rattle.mu_num.specs.Fraction.{Fraction, lowest}

-- a digit
abbrev pub is_digit : ℕ → Bool
is_digit b = nat_le 48 b && nat_le b 57

-- an e or E, which starts the exponent
abbrev pub is_exponent_mark : ℕ → Bool
is_exponent_mark b = nat_eq b 101 || nat_eq b 69

-- a decimal point
abbrev pub is_point : ℕ → Bool
is_point b = nat_eq b 46

-- a minus sign
abbrev pub is_minus : ℕ → Bool
is_minus b = nat_eq b 45

-- the number with one more decimal digit; a byte that is no digit is ignored
abbrev pub digit_after : ℕ → ℕ → ℕ
digit_after n b = if is_digit b then n * 10 + (b - 48) else n

-- the natural number that the digits of a text denote
abbrev pub number_of : List ℕ → ℕ
number_of bs = fold digit_after 0 bs

-- the part of a token before its exponent
abbrev pub mantissa : List ℕ → List ℕ
mantissa bs = before_first is_exponent_mark bs

-- the exponent of a token, without its e or E
abbrev pub exponent : List ℕ → List ℕ
exponent bs = after_first is_exponent_mark bs

-- the number of digits after the decimal point
abbrev pub places : List ℕ → ℕ
places bs = count_by is_digit (after_first is_point bs)

-- the number times 10^up divided by 10^down
pub record DecimalParts : Type 0 where
  pub number : ℕ
  pub up : ℕ
  pub down : ℕ

-- the exponent's absolute value, as a multiplier (up) or as a divisor (down)
abbrev pub up_of : List ℕ → ℕ
up_of bs = if list_any is_minus (exponent bs) then 0 else number_of (exponent bs)

abbrev pub down_of : List ℕ → ℕ
down_of bs = if list_any is_minus (exponent bs) then number_of (exponent bs) else 0

-- the written value of a token: mantissa digits as an integer, divided by ten per digit after the
-- point, times 10^exponent
abbrev pub written_parts : List ℕ → DecimalParts
written_parts bs = record { number = number_of (mantissa bs); up = up_of bs; down = places (mantissa bs) + down_of bs }

-- the written value as a fraction
abbrev pub fraction_of : DecimalParts → Fraction
fraction_of s = record { num = pos (s.number * 10 ^ s.up); den = 10 ^ s.down }

-- for m * 10^e with m not ending in 0: m ≤ 2^62, m * 10^e ≤ 2^62 if e is positive, and e ≥ -18; 0
-- is in range
abbrev pub IsInRange : DecimalParts → Type 0
IsInRange s = (m z : ℕ) → s.number ≡ m * 10 ^ z → m % 10 ≢ 0 → (m * 10 ^ (z + s.up - s.down) ≤ 2 ^ 62) × (s.down - (z + s.up) ≤ 18)

-- the number of trailing zeros of n, counted up to `most`
unfoldable pub zeros_at_end : (most n : ℕ) → ℕ
zeros_at_end zero n = 0
zeros_at_end (suc most) n = if nat_eq (n % 10) 0 then suc (zeros_at_end most (n / 10)) else 0

-- the range check for m * 10^(z + up) / 10^down
abbrev pub fits : (m z up down : ℕ) → Bool
fits m z up down = nat_le (m * 10 ^ (z + up - down)) (2 ^ 62) && nat_le (down - (z + up)) 18

-- the range check, with m and z computed from the number
unfoldable pub is_in_range : DecimalParts → Bool
is_in_range s = nat_eq s.number 0 || fits (s.number / 10 ^ zeros_at_end s.number s.number) (zeros_at_end s.number s.number) s.up s.down

-- the value in lowest terms, or Range if it is out of range
unfoldable pub scaled_value : DecimalParts → Result Fraction NumErr
scaled_value s = if is_in_range s then Ok (lowest (fraction_of s)) else Err Range

-- the value of a number token, or Range
unfoldable pub decimal_value : List ℕ → Result Fraction NumErr
decimal_value bs = scaled_value (written_parts bs)

-- a token has its written value if and only if that is in range
pub record DecimalsAreRight : Type 0 where
  pub in_range : (bs : List ℕ) → IsInRange (written_parts bs) → decimal_value bs ≡ Ok (lowest (fraction_of (written_parts bs)))
  pub out_of_range : (bs : List ℕ) → ¬ (IsInRange (written_parts bs)) → decimal_value bs ≡ Err Range
