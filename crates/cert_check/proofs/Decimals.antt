-- A number's text parses as it.
use Rattle.cert_check.proofs.Common
use Common.{[], ℕ, ℤ, ◌<◌, ◌^◌, ◌∷◌, ◌≡◌, ◌≤◌, All, all_ascii_digits, ap₂, arith, digit_at}
use Common.{digits_value, false, get_or, ints, IsNumber, le-leb, length, List, magnitude_in, map}
use Common.{ne_eqb, negsuc, number_in, numerals_by_value, Option, pos, refl, signed_decimal, Some}
use Common.{starts_with_minus, suc, tells_all_ascii_digits, true}
use Rattle.std.specs.Prelude.{decimal}
use Rattle.std.proofs.lemmas.Fmt.{decimal_is_IsNumeral_wide, length-decimal-le_wide}

magnitude-decimal : (n : ℕ) → n ≤ 2 ^ 126 → magnitude_in (decimal n) ≡ Some n
magnitude-decimal n h =
    let wide : n < 10 ^ 64 = omega arith in
    let short : n < 10 ^ 39 = omega arith in
    let numeral = decimal_is_IsNumeral_wide n wide in
    let some : 1 ≤ length (decimal n) = numeral.0.0 in
    let few = length-decimal-le_wide 39 n (omega arith) short wide in
    let all = (numerals_by_value (λ ds. all_ascii_digits ds ≡ true) tells_all_ascii_digits).from (decimal n) numeral.0.1 in
    let value : digits_value 10 (decimal n) ≡ n = numeral.1 in
    rw (le-leb 1 (length (decimal n)) some, le-leb (length (decimal n)) 39 few, all, value, le-leb n (2 ^ 126) h) refl

no-minus : (n : ℕ) → n ≤ 2 ^ 126 → starts_with_minus (decimal n) ≡ false
no-minus n h =
    let numeral = decimal_is_IsNumeral_wide n (omega arith) in
    let digit = digit_at (decimal n) 0 numeral.0.1 numeral.0.0 in
    ne_eqb (get_or (decimal n) 0 0) 45 (λ e. omega (arith, digit, e))

pub number-decimal : (z : ℤ) → IsNumber z → number_in (signed_decimal z) ≡ Some z
number-decimal (pos n) h = rw (no-minus n h, magnitude-decimal n h) refl
number-decimal (negsuc n) h = rw (magnitude-decimal (suc n) (omega (arith, ints))) refl

pub numbers-decimal : (zs : List ℤ) → All IsNumber zs → map number_in (map signed_decimal zs) ≡ map (λ z. Some z) zs
numbers-decimal [] h = refl
numbers-decimal (z ∷ zs) h =
    ap₂ (λ (a : Option ℤ) (b : List (Option ℤ)). a ∷ b) (number-decimal z (h 0 (pos 0) (omega arith))) (numbers-decimal zs (λ k d l. h (suc k) d (omega arith)))
