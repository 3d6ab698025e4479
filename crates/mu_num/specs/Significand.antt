-- Reading a number token from left to right: its digits without trailing zeros.
use Rattle.std.specs.Prelude.{ℕ, pos, ◌+◌, ◌-◌, ◌*◌, ◌^◌, ◌&&◌, nat_eq, nat_le, if◌then◌else◌, List, fold, Result, Ok, Err}
use Rattle.mu_num.specs.declared.NumErr.{NumErr}
use Rattle.mu_num.specs.declared.NumErr.TheVariants.{Range}
use Rattle.mu_num.specs.Fraction.{Fraction, whole, checked}
use Rattle.mu_num.specs.Decimal.{is_digit, mantissa, places, up_of, down_of}

-- a number without its trailing zeros, and their count
pub record Significand : Type 0 where
  pub number : ℕ
  pub zeros : ℕ

-- one more decimal digit
abbrev pub with_digit : Significand → ℕ → Significand
with_digit s d =
    if nat_eq d 0 then record { number = s.number; zeros = s.zeros + 1 }
    else record { number = s.number * 10 ^ (s.zeros + 1) + d; zeros = 0 }

-- one more byte; a byte that is no digit is ignored
abbrev pub byte_after : Significand → ℕ → Significand
byte_after s b = if is_digit b then with_digit s (b - 48) else s

-- the significand of the digits of a text
abbrev pub significand : List ℕ → Significand
significand bs = fold byte_after (record { number = 0; zeros = 0 }) bs

-- number * 10^up / 10^down, or Range; the number is 0 or does not end in 0
unfoldable pub scaled : (number up down : ℕ) → Result Fraction NumErr
scaled number up down =
    if nat_eq number 0 then Ok (whole (pos 0))
    else (if nat_le (number * 10 ^ (up - down)) (2 ^ 62) && nat_le (down - up) 18
    then checked (record { num = pos (number * 10 ^ (up - down)); den = 10 ^ (down - up) })
    else Err Range)

-- the value of a token, computed from its significand
unfoldable pub value_read : List ℕ → Result Fraction NumErr
value_read bs = scaled (significand (mantissa bs)).number ((significand (mantissa bs)).zeros + up_of bs) (places (mantissa bs) + down_of bs)
