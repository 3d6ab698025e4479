-- Texts of digits, byte by byte.
use Rattle.cert_check.proofs.Common
use Common.{[], ℕ, ◌&&◌, ◌*◌, ◌+◌, ◌-◌, ◌<◌, ◌^◌, ◌∙◌, ◌∷◌, ◌≡◌, ◌≤◌, all_ascii_digits, ap, arith}
use Common.{Bool, digit_at, digits_value, false, get_or, is_ascii_digit, le-leb, le-ltb, length}
use Common.{List, lt-ltb, nat_le, nat_lt, numerals_by_value, refl, suc, take}
use Common.{tells_all_ascii_digits, true, zero}
use Rattle.std.proofs.lemmas.Bool.{lt-leb}
use Rattle.std.proofs.lemmas.Int.Digits.{digits_value_more}
use Rattle.std.specs.Char.{digit_value}
use Rattle.std.proofs.lemmas.Str.Parse.{digits_value-take-le}

-- a byte that is no digit
pub not-digits : (bytes : List ℕ) (i : ℕ) → i < length bytes → is_ascii_digit (get_or bytes i 0) ≡ false → all_ascii_digits bytes ≡ false
not-digits [] i h e = absurd (omega arith)
not-digits (b ∷ rest) zero h e = rw e refl
not-digits (b ∷ rest) (suc i) h e = by (is_ascii_digit b) (not-digits rest i (omega arith) e)
  where
    by : (t : Bool) → all_ascii_digits rest ≡ false → (t && all_ascii_digits rest) ≡ false
    by true r = r
    by false r = refl

-- each byte is a digit
pub all-digits : (bytes : List ℕ) → ((i : ℕ) → i < length bytes → is_ascii_digit (get_or bytes i 0) ≡ true) → all_ascii_digits bytes ≡ true
all-digits [] h = refl
all-digits (b ∷ rest) h = rw (h 0 (omega arith), all-digits rest (λ i l. h (suc i) (omega arith))) refl

pub digit-low : (digits : List ℕ) (i : ℕ) → all_ascii_digits digits ≡ true → i < length digits → (48 ≤ get_or digits i 0) × (get_or digits i 0 ≤ 57)
digit-low digits i h l =
    let all = (numerals_by_value (λ ds. all_ascii_digits ds ≡ true) tells_all_ascii_digits).to digits h in
    digit_at digits i all l

pub digit-value : (c : ℕ) → 48 ≤ c → c ≤ 57 → digit_value c ≡ c - 48
digit-value c low high =
    let a : nat_lt c 48 ≡ false = le-ltb c 48 low in
    let b : nat_lt c 58 ≡ true = lt-ltb c 58 (omega arith) in
    rw (a, b) refl

-- one more digit
pub value-more : (digits : List ℕ) (i : ℕ) → all_ascii_digits digits ≡ true → i < length digits
    → digits_value 10 (take (i + 1) digits) ≡ digits_value 10 (take i digits) * 10 + (get_or digits i 0 - 48)
value-more digits i h l =
    let d = digit-low digits i h l in
    digits_value_more 10 digits i l ∙ ap (λ v. digits_value 10 (take i digits) * 10 + v) (digit-value (get_or digits i 0) d.0 d.1)

-- too much at a place is too much in all
pub value-above : (digits : List ℕ) (i v : ℕ) → v ≡ digits_value 10 (take i digits) → 2 ^ 126 < v → nat_le (digits_value 10 digits) (2 ^ 126) ≡ false
value-above digits i v e far =
    let a = digits_value-take-le 10 digits i (omega arith) in
    lt-leb _ _ (omega arith)

pub value-here : (v : ℕ) → v ≤ 2 ^ 126 → nat_le v (2 ^ 126) ≡ true
value-here v h = le-leb v (2 ^ 126) h
