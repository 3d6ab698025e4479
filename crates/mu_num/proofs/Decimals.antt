-- A number token has its written value.
use Rattle.mu_num.proofs.Common
use Common.{[], ℕ, ◌%◌, ◌*ℤ◌, ◌*◌, ◌+◌, ◌-◌, ◌/◌, ◌<◌, ◌^◌, ◌∙◌, ◌∷◌, ◌≡◌, ◌≢◌, ◌≤◌, ◌⊎◌, ap, arith}
use Common.{Bool, byte_after, cases_lt, checked, digit_after, eq-one_of_dvd-one, Err, false}
use Common.{Fraction, if◌then◌else◌, inl, inr, is_digit, IsSameValue, List, lit≤, lowest}
use Common.{mul-div_cancel, mul_assoc, nat_eq, nat_tests, number_of, Ok, one-le-pow, pos, pow-add}
use Common.{pow-le-pow_right, pow-suc, Range, refl, scaled, Significand, significand, suc, sym}
use Common.{true, unsigned_abs, value_read, whole, zero, zero-*ℤ}
use Rattle.std.specs.Prelude.{fold}
use Rattle.mu_num.specs.Decimal.{DecimalParts, mantissa, places, up_of, down_of, written_parts}
use Rattle.mu_num.specs.Decimal.{fraction_of, IsInRange, zeros_at_end, fits, is_in_range}
use Rattle.mu_num.specs.Decimal.{scaled_value, decimal_value}
use Rattle.mu_num.proofs.Tests.{eqb-true, eqb-false, eqb-yes, eqb-no}
use Rattle.mu_num.proofs.Lowest.{lowest_terms, lowest_only, lowest_is, checked_ok}
use Rattle.mu_num.proofs.Reading.{power_more, scaled_in, scaled_out, scaled_zero}

-- the digits read so far denote the number, which does not end in 0
record IsReadAs (s : Significand) (n : ℕ) : Type 0 where
  pub value : n ≡ s.number * 10 ^ s.zeros
  pub ending : (s.number ≡ 0) ⊎ (s.number % 10 ≢ 0)

digit_high : (b : ℕ) → is_digit b ≡ true → b - 48 < 10
digit_high b h = grind (arith, nat_tests)

-- by the two tests of a byte
read_byte : (s : Significand) (n b : ℕ) (t u : Bool) → is_digit b ≡ t → nat_eq (b - 48) 0 ≡ u → IsReadAs s n → IsReadAs (byte_after s b) (digit_after n b)
read_byte s n b false u e f r = rw e r
read_byte s n b true true e f r =
    let none : b - 48 ≡ 0 = eqb-true (b - 48) 0 f in
    rw (e, f) (record { value = omega (arith, r.value, power_more s.number s.zeros); ending = r.ending })
read_byte s n b true false e f r =
    let some : b - 48 ≢ 0 = eqb-false (b - 48) 0 f in
    let low : b - 48 < 10 = digit_high b e in
    rw (e, f) (record {
      value = omega (arith, r.value, power_more s.number s.zeros);
      ending = inr (omega (arith, power_more s.number s.zeros));
    })

read_all : (s : Significand) (n : ℕ) (bs : List ℕ) → IsReadAs s n → IsReadAs (fold byte_after s bs) (fold digit_after n bs)
read_all s n [] r = r
read_all s n (b ∷ bs) r = read_all (byte_after s b) (digit_after n b) bs (read_byte s n b (is_digit b) (nat_eq (b - 48) 0) refl refl r)

-- one more zero at the end
ten_times : (m z : ℕ) → m * 10 ^ suc z ≡ m * 10 ^ z * 10
ten_times m z = rw (pow-suc 10 z) (sym (mul_assoc m (10 ^ z) 10))

-- there are fewer zeros than the number has units
few_zeros : (m z : ℕ) → 0 < m → z < m * 10 ^ z
few_zeros m zero h = omega arith
few_zeros m (suc z) h = omega (arith, ten_times m z, few_zeros m z h)

-- the zeros that were put at the end are found
zeros-found : (most m z : ℕ) → z ≤ most → m % 10 ≢ 0 → zeros_at_end most (m * 10 ^ z) ≡ z
unfolding zeros_at_end
zeros-found zero m zero le ne = refl
zeros-found (suc most) m zero le ne =
    let same : m * 10 ^ 0 ≡ m = omega arith in
    rw (same, eqb-no (m % 10) 0 ne) refl
zeros-found zero m (suc z) le ne = absurd (omega arith)
zeros-found (suc most) m (suc z) le ne =
    let ends : (m * 10 ^ z * 10) % 10 ≡ 0 = omega arith in
    let rest : m * 10 ^ z * 10 / 10 ≡ m * 10 ^ z = omega arith in
    rw (ten_times m z, eqb-yes ((m * 10 ^ z * 10) % 10) 0 ends, rest) (ap suc (zeros-found most m z (omega arith) ne))

-- a number without the zeros at its end
record Stripped (n : ℕ) : Type 0 where
  pub kept : ℕ
  pub zeros : ℕ
  pub value : n ≡ kept * 10 ^ zeros
  pub ending : kept % 10 ≢ 0

strip : (n : ℕ) (t : Bool) → nat_eq (n % 10) 0 ≡ t → 0 < n → (0 < n / 10 → Stripped (n / 10)) → Stripped n
strip n false e h shorter = record { kept = n; zeros = 0; value = omega arith; ending = eqb-false (n % 10) 0 e }
strip n true e h shorter =
    let ends : n % 10 ≡ 0 = eqb-true (n % 10) 0 e in
    let rest : Stripped (n / 10) = shorter (omega arith) in
    record { kept = rest.kept; zeros = suc rest.zeros; value = omega (arith, ten_times rest.kept rest.zeros, rest.value); ending = rest.ending }

stripped : (most n : ℕ) → 0 < n → n ≤ most → Stripped n
stripped zero n h le = absurd (omega arith)
stripped (suc most) n h le = strip n (nat_eq (n % 10) 0) refl h (λ some. stripped most (n / 10) some (omega arith))

-- a number that does not end in 0 is not 0
not_zero : (m : ℕ) → m % 10 ≢ 0 → 0 < m
not_zero zero ne = absurd (ne refl)
not_zero (suc m) ne = omega arith

power_positive : (k : ℕ) → 0 < 10 ^ k
power_positive k = one-le-pow k 10 (lit≤ tt)

-- the test of the range, at the number's own m and z
range_test : (s : DecimalParts) (m z : ℕ) → s.number ≡ m * 10 ^ z → m % 10 ≢ 0 → is_in_range s ≡ fits m z s.up s.down
unfolding is_in_range
range_test s m z e ne =
    let positive : 0 < m = not_zero m ne in
    let few : z < s.number = omega (arith, e, few_zeros m z positive) in
    let some : s.number ≢ 0 = omega arith in
    let zeros : zeros_at_end s.number s.number ≡ z = ap (zeros_at_end s.number) e ∙ zeros-found s.number m z (omega arith) ne in
    let kept : s.number / 10 ^ z ≡ m = ap (λ n. n / 10 ^ z) e ∙ mul-div_cancel m (power_positive z) in
    rw (eqb-no s.number 0 some, zeros, kept) refl

-- 0 is in range
zero_in_range : (s : DecimalParts) → s.number ≡ 0 → is_in_range s ≡ true
unfolding is_in_range
zero_in_range s e = rw (eqb-yes s.number 0 e) refl

record Fits (m z up down : ℕ) : Type 0 where
  pub small : m * 10 ^ (z + up - down) ≤ 2 ^ 62
  pub near : down - (z + up) ≤ 18

fits-true : (m z up down : ℕ) → fits m z up down ≡ true → Fits m z up down
fits-true m z up down e = record { small = grind (arith, nat_tests); near = grind (arith, nat_tests) }

fits-yes : (m z up down : ℕ) → Fits m z up down → fits m z up down ≡ true
fits-yes m z up down h = let small = h.small in let near = h.near in grind (arith, nat_tests)

fits-false : (m z up down : ℕ) → fits m z up down ≡ false → (2 ^ 62 < m * 10 ^ (z + up - down)) ⊎ (18 < down - (z + up))
fits-false m z up down e =
    elim (cases_lt (2 ^ 62) (m * 10 ^ (z + up - down))) [
      | inl large ↦ inl large
      | inr small ↦ elim (cases_lt 18 (down - (z + up))) [ inl far ↦ inr far | inr near ↦ absurd (grind (arith, nat_tests)) ]
    ]

-- the power of ten that is left on one side is that of the other
balance : (m z up down : ℕ) → m * 10 ^ (z + up - down) * 10 ^ down ≡ m * 10 ^ z * 10 ^ up * 10 ^ (down - (z + up))
balance m z up down =
    mul_assoc m (10 ^ (z + up - down)) (10 ^ down)
    ∙ ap (λ x. m * x) (sym (pow-add 10 (z + up - down) down) ∙ ap (λ k. 10 ^ k) sum ∙ pow-add 10 (z + up) (down - (z + up)) ∙ ap (λ x. x * 10 ^ (down - (z + up))) (pow-add 10 z up))
    ∙ sym (mul_assoc m (10 ^ z * 10 ^ up) (10 ^ (down - (z + up)))) ∙ ap (λ x. x * 10 ^ (down - (z + up))) (sym (mul_assoc m (10 ^ z) (10 ^ up)))
  where
    sum : z + up - down + down ≡ z + up + (down - (z + up))
    sum = omega arith

-- small terms have small lowest terms
checked_small : (a : Fraction) → 0 < a.den → unsigned_abs a.num ≤ 2 ^ 62 → a.den ≤ 2 ^ 62 → checked a ≡ Ok (lowest a)
checked_small a h num den =
    let t = lowest_terms a h in
    checked_ok a (lowest a) refl (omega (arith, t.num_size)) (omega (arith, t.den_size))

-- the value of digits that do not end in 0
value_by : (m z up down : ℕ) (t : Bool) → fits m z up down ≡ t → m % 10 ≢ 0 →
    scaled m (z + up) down ≡ (if t then Ok (lowest (record { num = pos (m * 10 ^ z * 10 ^ up); den = 10 ^ down })) else Err Range)
value_by m z up down false e ne = scaled_out m (z + up) down (not_zero m ne) (fits-false m z up down e)
value_by m z up down true e ne =
    let h : Fits m z up down = fits-true m z up down e in
    let a : Fraction = record { num = pos (m * 10 ^ (z + up - down)); den = 10 ^ (down - (z + up)) } in
    let b : Fraction = record { num = pos (m * 10 ^ z * 10 ^ up); den = 10 ^ down } in
    let near : 10 ^ (down - (z + up)) ≤ 10 ^ 18 = pow-le-pow_right (lit≤ tt) h.near in
    let same : IsSameValue a b = ap pos (balance m z up down) in
    scaled_in m (z + up) down (not_zero m ne) h.small h.near
    ∙ checked_small a (power_positive (down - (z + up))) h.small (omega (arith, near))
    ∙ ap Ok (lowest_only a b (power_positive (down - (z + up))) (power_positive down) same)

-- the lowest terms of 0
lowest-zero : (up down : ℕ) → lowest (record { num = pos (0 * 10 ^ up); den = 10 ^ down }) ≡ whole (pos 0)
lowest-zero up down =
    let none : pos (0 * 10 ^ up) ≡ pos 0 = ap pos (omega arith) in
    lowest_is (record { num = pos (0 * 10 ^ up); den = 10 ^ down }) (whole (pos 0)) (power_positive down) (lit≤ tt) (λ d p q. eq-one_of_dvd-one q)
    (ap (λ x. x *ℤ pos 1) none ∙ sym (zero-*ℤ (pos (10 ^ down))))

-- the value of digits that were read
value_is : (s : Significand) (n up down : ℕ) → IsReadAs s n → scaled s.number (s.zeros + up) down ≡ scaled_value (record { number = n; up = up; down = down })
unfolding scaled_value
value_is s n up down r = elim r.ending [
  | inl none ↦
      let zero_n : n ≡ 0 = r.value ∙ ap (λ x. x * 10 ^ s.zeros) none ∙ zero-mul-power s.zeros in
      rw (zero_in_range (record { number = n; up = up; down = down }) zero_n, none, zero_n) (scaled_zero (s.zeros + up) down ∙ ap Ok (sym (lowest-zero up down)))
  | inr some ↦ rw (range_test (record { number = n; up = up; down = down }) s.number s.zeros r.value some, r.value) (value_by s.number s.zeros up down (fits s.number s.zeros up down) refl some)
]
  where
    zero-mul-power : (k : ℕ) → 0 * 10 ^ k ≡ 0
    zero-mul-power k = omega arith

pub value_read_is : (bs : List ℕ) → value_read bs ≡ decimal_value bs
unfolding value_read decimal_value
value_read_is bs =
    value_is (significand (mantissa bs)) (number_of (mantissa bs)) (up_of bs) (places (mantissa bs) + down_of bs)
    (read_all (record { number = 0; zeros = 0 }) 0 (mantissa bs) (record { value = refl; ending = inl refl }))

-- the range test is correct
in_range-yes : (s : DecimalParts) → IsInRange s → is_in_range s ≡ true
in_range-yes s h = elim (cases_lt 0 s.number) [
  | inl some ↦
      let parts : Stripped s.number = stripped s.number s.number some (omega arith) in
      let both = h parts.kept parts.zeros parts.value parts.ending in
      range_test s parts.kept parts.zeros parts.value parts.ending ∙ fits-yes parts.kept parts.zeros s.up s.down (record { small = both.0; near = both.1 })
  | inr none ↦ zero_in_range s (omega arith)
]

in_range-true : (s : DecimalParts) → is_in_range s ≡ true → IsInRange s
in_range-true s e m z value ending =
    let h : Fits m z s.up s.down = fits-true m z s.up s.down (sym (range_test s m z value ending) ∙ e) in
    (h.small, h.near)

in_range-no : (s : DecimalParts) (t : Bool) → is_in_range s ≡ t → ¬ (IsInRange s) → is_in_range s ≡ false
in_range-no s false e h = e
in_range-no s true e h = absurd (h (in_range-true s e))

pub decimal_in : (bs : List ℕ) → IsInRange (written_parts bs) → decimal_value bs ≡ Ok (lowest (fraction_of (written_parts bs)))
unfolding decimal_value scaled_value
decimal_in bs h = rw (in_range-yes (written_parts bs) h) refl

pub decimal_out : (bs : List ℕ) → ¬ (IsInRange (written_parts bs)) → decimal_value bs ≡ Err Range
unfolding decimal_value scaled_value
decimal_out bs h = rw (in_range-no (written_parts bs) (is_in_range (written_parts bs)) refl h) refl
