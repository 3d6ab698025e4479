-- Reading digits.
use Rattle.mu_num.proofs.Common
use Common.{[], ℕ, ◌*◌, ◌++◌, ◌+◌, ◌-◌, ◌<◌, ◌^◌, ◌∙◌, ◌∷◌, ◌≡◌, ◌≢◌, ◌≤◌, ◌⊎◌, add-one, ap, arith}
use Common.{Bool, byte_after, cases_Bool, cases_lt, checked, digit_after, eqb-true, Err, false}
use Common.{get_or, if◌then◌else◌, inl, inr, is_digit, length, List, lit≤, min, mul_assoc, nat_eq}
use Common.{nat_tests, number_of, Ok, one-le-pow, pos, pow-le-pow_right, pow-suc, Range, refl}
use Common.{scaled, Significand, significand, sym, take, true, whole}
use Rattle.std.proofs.Math.Nat.{le-mul_of_pos_right}
use Rattle.std.proofs.Math.Seq.{take-suc}
use Rattle.std.proofs.lemmas.List.Sums.{fold-append}

-- the number after one more byte of a text
pub number_of-push : (bs : List ℕ) (b : ℕ) → number_of (bs ++ b ∷ []) ≡ digit_after (number_of bs) b
number_of-push bs b = fold-append digit_after 0 bs (b ∷ [])

-- the digits after one more byte of a text
pub significand-push : (bs : List ℕ) (b : ℕ) → significand (bs ++ b ∷ []) ≡ byte_after (significand bs) b
significand-push bs b = fold-append byte_after (record { number = 0; zeros = 0 }) bs (b ∷ [])

-- a part and one more byte
pub taken_more : (bs : List ℕ) (i : ℕ) → i < length bs → take (i + 1) bs ≡ take i bs ++ get_or bs i 0 ∷ []
taken_more bs i h = rw (add-one, take-suc bs i 0 h) refl

-- one more power of ten
pub power_more : (n c : ℕ) → n * 10 ^ (c + 1) ≡ n * 10 ^ c * 10
power_more n c = rw (add-one, pow-suc 10 c) (sym (mul_assoc n (10 ^ c) 10))

-- twenty powers of ten pass the limit
pub raised_enough : (n count : ℕ) → 0 < n → min (n * 10 ^ min count 20) (2 ^ 64) ≡ min (n * 10 ^ count) (2 ^ 64)
raised_enough n count h =
    elim (cases_lt 20 count) [
      | inl large ↦
          let twenty : min count 20 ≡ 20 = omega arith in
          let order : 20 ≤ count = omega arith in
          let below : 10 ^ 20 ≤ 10 ^ count = pow-le-pow_right (lit≤ tt) order in
          let many : 2 ^ 64 ≤ 10 ^ count = omega (arith, below) in
          let first : 10 ^ count ≤ n * 10 ^ count = at_least (10 ^ count) in
          let second : 10 ^ 20 ≤ n * 10 ^ 20 = at_least (10 ^ 20) in
          rw twenty (omega (arith, many, first, second))
      | inr small ↦ let same : min count 20 ≡ count = omega arith in rw same refl
    ]
  where
    at_least : (x : ℕ) → x ≤ n * x
    at_least x = omega (arith, le-mul_of_pos_right x h)

-- cutting before a digit is read changes nothing after the cut
pub cut_digit : (n b : ℕ) → min (digit_after (min n (2 ^ 64)) b) (2 ^ 64) ≡ min (digit_after n b) (2 ^ 64)
cut_digit n b =
    elim (is_digit b) as (λ t. min (if t then min n (2 ^ 64) * 10 + (b - 48) else min n (2 ^ 64)) (2 ^ 64) ≡ min (if t then n * 10 + (b - 48) else n) (2 ^ 64)) [ true ↦ omega arith | false ↦ omega arith ]

-- a digit is at least the byte of 0
digit_from : (b : ℕ) → is_digit b ≡ true → 48 ≤ b
digit_from b h = grind (arith, nat_tests)

-- a digit other than 0 goes on the number
pub continued_number : (n z b power r : ℕ) → is_digit b ≡ true → b ≢ 48 → power ≡ min (n * 10 ^ z) (2 ^ 64) → r ≡ min (power * 10 + (b - 48)) (2 ^ 64)
    → r ≡ min (byte_after (record { number = n; zeros = z }) b).number (2 ^ 64)
continued_number n z b power r digit other e f =
    let from : 48 ≤ b = digit_from b digit in
    let some : b - 48 ≢ 0 = omega arith in
    let test : nat_eq (b - 48) 0 ≡ false = elim (cases_Bool (nat_eq (b - 48) 0)) [ inl t ↦ absurd (some (eqb-true _ _ t)) | inr x ↦ x ] in
    rw (digit, test, power_more n z) (omega (arith, e, f))

-- cutting a number before it is raised changes nothing after the cut
cut_times : (n q d : ℕ) → 1 ≤ q → min (min n (2 ^ 64) * q + d) (2 ^ 64) ≡ min (n * q + d) (2 ^ 64)
cut_times n q d h =
    elim (cases_lt (2 ^ 64) n) [
      | inl large ↦
          let same : min n (2 ^ 64) ≡ 2 ^ 64 = omega arith in
          let first : 2 ^ 64 ≤ 2 ^ 64 * q = le-mul_of_pos_right (2 ^ 64) h in
          let second : n ≤ n * q = le-mul_of_pos_right n h in
          rw same (omega (arith, first, second))
      | inr small ↦ let same : min n (2 ^ 64) ≡ n = omega arith in rw same refl
    ]

-- cutting the number before a byte is read changes nothing after the cut
pub record IsCut (n z b : ℕ) : Type 0 where
  pub number : min (byte_after (record { number = min n (2 ^ 64); zeros = z }) b).number (2 ^ 64) ≡ min (byte_after (record { number = n; zeros = z }) b).number (2 ^ 64)
  pub zeros : (byte_after (record { number = min n (2 ^ 64); zeros = z }) b).zeros ≡ (byte_after (record { number = n; zeros = z }) b).zeros

-- by the two tests of the byte
cut_by : (n z b : ℕ) (t u : Bool) → is_digit b ≡ t → nat_eq (b - 48) 0 ≡ u → IsCut n z b
cut_by n z b false u e f = record { number = rw e (omega arith); zeros = rw e refl }
cut_by n z b true true e f = record { number = rw (e, f) (omega arith); zeros = rw (e, f) refl }
cut_by n z b true false e f = record { number = rw (e, f) (cut_times n (10 ^ (z + 1)) (b - 48) (one-le-pow (z + 1) 10 (lit≤ tt))); zeros = rw (e, f) refl }

pub cut_byte : (n z b : ℕ) → IsCut n z b
cut_byte n z b = cut_by n z b (is_digit b) (nat_eq (b - 48) 0) refl refl

-- one more byte of digits whose number was cut
pub digits_step : (s : Significand) (n z b rn rz : ℕ) → n ≡ min s.number (2 ^ 64) → z ≡ s.zeros → rn ≡ min (byte_after (record { number = n; zeros = z }) b).number (2 ^ 64) → rz ≡ (byte_after (record { number = n; zeros = z }) b).zeros
    → (rn ≡ min (byte_after s b).number (2 ^ 64)) × (rz ≡ (byte_after s b).zeros)
digits_step s n z b rn rz en ez e f =
    let c : IsCut s.number s.zeros b = cut_byte s.number s.zeros b in
    let e' : rn ≡ min (byte_after (record { number = min s.number (2 ^ 64); zeros = s.zeros }) b).number (2 ^ 64) =
    e ∙ ap (λ x. min (byte_after (record { number = x; zeros = z }) b).number (2 ^ 64)) en ∙ ap (λ y. min (byte_after (record { number = min s.number (2 ^ 64); zeros = y }) b).number (2 ^ 64)) ez in
    let f' : rz ≡ (byte_after (record { number = min s.number (2 ^ 64); zeros = s.zeros }) b).zeros =
    f ∙ ap (λ x. (byte_after (record { number = x; zeros = z }) b).zeros) en ∙ ap (λ y. (byte_after (record { number = min s.number (2 ^ 64); zeros = y }) b).zeros) ez in
    (e' ∙ c.number, f' ∙ c.zeros)

-- a number that is 0, and its test
zero_test : (n : ℕ) → 0 < n → nat_eq n 0 ≡ false
zero_test n h = elim (cases_Bool (nat_eq n 0)) [ inl t ↦ let e : n ≡ 0 = eqb-true n 0 t in absurd (omega arith) | inr f ↦ f ]

-- out of range
pub scaled_out : (n up down : ℕ) → 0 < n → (2 ^ 62 < n * 10 ^ (up - down)) ⊎ (18 < down - up) → scaled n up down ≡ Err Range
unfolding scaled
scaled_out n up down h (inl large) = rw (zero_test n h) (grind (arith, nat_tests))
scaled_out n up down h (inr far) = rw (zero_test n h) (grind (arith, nat_tests))

-- in range
pub scaled_in : (n up down : ℕ) → 0 < n → n * 10 ^ (up - down) ≤ 2 ^ 62 → down - up ≤ 18 → scaled n up down ≡ checked (record { num = pos (n * 10 ^ (up - down)); den = 10 ^ (down - up) })
unfolding scaled
scaled_in n up down h small near = rw (zero_test n h) (grind (arith, nat_tests))

-- zero
pub scaled_zero : (up down : ℕ) → scaled 0 up down ≡ Ok (whole (pos 0))
unfolding scaled
scaled_zero up down = refl

-- a power up that fits
pub scaled_up : (n up down value : ℕ) → 0 < n → down ≤ up → value ≡ min (n * 10 ^ (up - down)) (2 ^ 64) → value ≤ 2 ^ 62 → scaled n up down ≡ checked (record { num = pos value; den = 1 })
scaled_up n up down value h order e small =
    let level : down - up ≡ 0 = omega arith in
    let same : n * 10 ^ (up - down) ≡ value = omega (arith, e) in
    scaled_in n up down h (omega (arith, same)) (omega arith) ∙ rw (same, level) refl

-- a power up that does not
pub scaled_up_out : (n up down value : ℕ) → 0 < n → value ≡ min (n * 10 ^ (up - down)) (2 ^ 64) → 2 ^ 62 < value → scaled n up down ≡ Err Range
scaled_up_out n up down value h e large = scaled_out n up down h (inl (omega (arith, e)))

-- the power of ten down, where it is near
pub power_down : (k p : ℕ) → k ≤ 18 → p ≡ min (1 * 10 ^ k) (2 ^ 64) → p ≡ 10 ^ k
power_down k p near e =
    let below : 10 ^ k ≤ 10 ^ 18 = pow-le-pow_right (lit≤ tt) near in
    omega (arith, e, below)

-- a power down that fits
pub scaled_down : (n up down p : ℕ) → 0 < n → up < down → n ≤ 2 ^ 62 → down - up ≤ 18 → p ≡ min (1 * 10 ^ (down - up)) (2 ^ 64) → scaled n up down ≡ checked (record { num = pos n; den = p })
scaled_down n up down p h order small near e =
    let level : up - down ≡ 0 = omega arith in
    let same : n * 10 ^ (up - down) ≡ n = rw level (omega arith) in
    scaled_in n up down h (omega (arith, same)) near ∙ rw (same, power_down (down - up) p near e) refl

-- a power down that does not
pub scaled_down_out : (n up down : ℕ) → 0 < n → up < down → (2 ^ 62 < n) ⊎ (18 < down - up) → scaled n up down ≡ Err Range
scaled_down_out n up down h order (inl large) =
    let level : up - down ≡ 0 = omega arith in
    let same : n * 10 ^ (up - down) ≡ n = rw level (omega arith) in
    scaled_out n up down h (inl (omega (arith, same)))
scaled_down_out n up down h order (inr far) = scaled_out n up down h (inr far)

-- a power of ten is positive
pub power_down_pos : (k p : ℕ) → k ≤ 18 → p ≡ min (1 * 10 ^ k) (2 ^ 64) → 0 < p
power_down_pos k p near e = let h : 1 ≤ 10 ^ k = one-le-pow k 10 (lit≤ tt) in omega (arith, power_down k p near e)

-- a large number is out of range, cut or not
pub scaled_cut_number : (n up down : ℕ) → scaled (min n (2 ^ 64)) up down ≡ scaled n up down
scaled_cut_number n up down =
    elim (cases_lt (2 ^ 64) n) [
      | inl large ↦
          let same : min n (2 ^ 64) ≡ 2 ^ 64 = omega arith in
          let one : 1 ≤ 10 ^ (up - down) = one-le-pow (up - down) 10 (lit≤ tt) in
          let first : 2 ^ 64 ≤ 2 ^ 64 * 10 ^ (up - down) = le-mul_of_pos_right (2 ^ 64) one in
          let second : n ≤ n * 10 ^ (up - down) = le-mul_of_pos_right n one in
          ap (λ x. scaled x up down) same ∙ scaled_out (2 ^ 64) up down (omega arith) (inl (omega (arith, first))) ∙ sym (scaled_out n up down (omega arith) (inl (omega (arith, second))))
      | inr small ↦ let same : min n (2 ^ 64) ≡ n = omega arith in ap (λ x. scaled x up down) same
    ]

-- a number far up is out of range
far_up : (n up down : ℕ) → 0 < n → down + 20 ≤ up → scaled n up down ≡ Err Range
far_up n up down h far =
    let order : 20 ≤ up - down = omega arith in
    let below : 10 ^ 20 ≤ 10 ^ (up - down) = pow-le-pow_right (lit≤ tt) order in
    let times : 10 ^ (up - down) ≤ n * 10 ^ (up - down) = omega (arith, le-mul_of_pos_right (10 ^ (up - down)) h) in
    scaled_out n up down h (inl (omega (arith, below, times)))

-- a power of ten that is cut, up
pub scaled_cut_up : (n z e down : ℕ) → down + 20 ≤ 2 ^ 64 → scaled n (z + min e (2 ^ 64)) down ≡ scaled n (z + e) down
scaled_cut_up n z e down room =
    elim (cases_lt (2 ^ 64) e) [
      | inl large ↦ elim (cases_lt 0 n) [
        | inl some ↦ far_up n (z + min e (2 ^ 64)) down some (omega arith) ∙ sym (far_up n (z + e) down some (omega arith))
        | inr none ↦
            let zero_n : n ≡ 0 = omega arith in
            ap (λ x. scaled x (z + min e (2 ^ 64)) down) zero_n ∙ scaled_zero (z + min e (2 ^ 64)) down ∙ sym (scaled_zero (z + e) down) ∙ ap (λ x. scaled x (z + e) down) (sym zero_n)
      ]
      | inr small ↦ let same : min e (2 ^ 64) ≡ e = omega arith in ap (λ x. scaled n (z + x) down) same
    ]

-- a power of ten that is cut, down
pub scaled_cut_down : (n z e down : ℕ) → z + 20 ≤ 2 ^ 64 → scaled n z (down + min e (2 ^ 64)) ≡ scaled n z (down + e)
scaled_cut_down n z e down room =
    elim (cases_lt (2 ^ 64) e) [
      | inl large ↦ elim (cases_lt 0 n) [
        | inl some ↦ scaled_out n z (down + min e (2 ^ 64)) some (inr (omega arith)) ∙ sym (scaled_out n z (down + e) some (inr (omega arith)))
        | inr none ↦
            let zero_n : n ≡ 0 = omega arith in
            ap (λ x. scaled x z (down + min e (2 ^ 64))) zero_n ∙ scaled_zero z (down + min e (2 ^ 64)) ∙ sym (scaled_zero z (down + e)) ∙ ap (λ x. scaled x z (down + e)) (sym zero_n)
      ]
      | inr small ↦ let same : min e (2 ^ 64) ≡ e = omega arith in ap (λ x. scaled n z (down + x)) same
    ]
