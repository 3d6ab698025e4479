-- The syntax of whole numbers in the fields of a certificate.
use Rattle.std.specs.Prelude.{ℕ, List, length, drop, ℤ, pos, neg_ℤ, Option, Some, None, ◌&&◌, nat_le, if◌then◌else◌}
use Rattle.std.specs.Option.{option_map}
use Rattle.std.specs.Str.{all_ascii_digits}
use Rattle.std.specs.Str.Parse.{digits_value, starts_with_minus}
use Rattle.mu_num.specs.Limits.{sum_limit}

-- the value of 1 to 39 digits, if it is at most 2^126
abbrev pub magnitude_in : List ℕ → Option ℕ
magnitude_in digits =
    if nat_le 1 (length digits) && nat_le (length digits) 39 && all_ascii_digits digits && nat_le (digits_value 10 digits) sum_limit
    then Some (digits_value 10 digits)
    else None

-- the number in a field: an optional minus sign and digits
abbrev pub number_in : List ℕ → Option ℤ
number_in field =
    if starts_with_minus field then option_map (λ n. neg_ℤ (pos n)) (magnitude_in (drop 1 field)) else option_map (λ n. pos n) (magnitude_in field)
