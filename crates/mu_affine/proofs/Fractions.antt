-- Fractions whose values are 0, and lowest terms.
use Rattle.mu_affine.proofs.Common
use Common.{ℕ, ℤ, ◌*ℤ◌, ◌*◌, ◌+ℤ◌, ◌<◌, ◌^◌, ◌∙◌, ◌≡◌, ◌≤◌, ap, arith, Bool, cases_lt, checked}
use Common.{difference, Err, false, Fraction, if◌then◌else◌, inl, inr, ints, is_nonzero, is_small}
use Common.{IsReduced, lowest, nat_tests, negsuc, none, NumErr, Ok, pos, product, Range, refl}
use Common.{Result, subst, sum, sym, true, unsigned_abs-mul, zero-*ℤ}
use Rattle.std.specs.Prelude.{◌-ℤ◌, unsigned_abs}
use Rattle.std.proofs.Math.Nat.{mul_comm, eq-one_of_dvd-one, zero-mul, mul-pos}
use Rattle.std.proofs.Math.IntN.{*ℤ_comm}
use Rattle.mu_num.specs.Fraction.{IsSameValue}
use Rattle.mu_num.proofs.Integers.{mul_assoc}
use Rattle.mu_num.proofs.Lowest.{lowest_is, lowest_only, lowest_terms, AreLowestTerms}

-- products of positive numbers
pub positive_product : (a b : ℕ) → 0 < a → 0 < b → 0 < a * b
positive_product a b h k = mul-pos h k

-- sums and products don't depend on the sides
pub sum-comm : (a b : Fraction) → sum a b ≡ sum b a
sum-comm a b =
    let n : a.num *ℤ pos b.den +ℤ b.num *ℤ pos a.den ≡ b.num *ℤ pos a.den +ℤ a.num *ℤ pos b.den = omega (arith, ints) in
    let d : a.den * b.den ≡ b.den * a.den = mul_comm a.den b.den in
    λ i. record { num = n i; den = d i }

pub product-comm : (a b : Fraction) → product a b ≡ product b a
product-comm a b =
    let n : a.num *ℤ b.num ≡ b.num *ℤ a.num = *ℤ_comm a.num b.num in
    let d : a.den * b.den ≡ b.den * a.den = mul_comm a.den b.den in
    λ i. record { num = n i; den = d i }

-- a sum with a fraction of value 0
pub lowest-zero_sum : (z a : Fraction) → z.num ≡ pos 0 → 0 < z.den → 0 < a.den → lowest (sum z a) ≡ lowest a
lowest-zero_sum z a zero zpos apos =
    let e : z.num *ℤ pos a.den +ℤ a.num *ℤ pos z.den ≡ a.num *ℤ pos z.den = omega (arith, ints, ap (λ n. n *ℤ pos a.den) zero, zero-*ℤ (pos a.den)) in
    let same : IsSameValue (sum z a) a = ap (λ n. n *ℤ pos a.den) e ∙ mul_assoc a.num (pos z.den) (pos a.den) in
    lowest_only (sum z a) a (positive_product z.den a.den zpos apos) apos same

pub lowest-sum_zero : (a z : Fraction) → z.num ≡ pos 0 → 0 < z.den → 0 < a.den → lowest (sum a z) ≡ lowest a
lowest-sum_zero a z zero zpos apos = rw (sum-comm a z) (lowest-zero_sum z a zero zpos apos)

-- a difference with one
pub lowest-difference_zero : (a z : Fraction) → z.num ≡ pos 0 → 0 < z.den → 0 < a.den → lowest (difference a z) ≡ lowest a
lowest-difference_zero a z zero zpos apos =
    let e : a.num *ℤ pos z.den -ℤ z.num *ℤ pos a.den ≡ a.num *ℤ pos z.den = omega (arith, ints, ap (λ n. n *ℤ pos a.den) zero, zero-*ℤ (pos a.den)) in
    let same : IsSameValue (difference a z) a =
    ap (λ n. n *ℤ pos a.den) e ∙ mul_assoc a.num (pos z.den) (pos a.den) ∙ ap (λ d. a.num *ℤ pos d) (mul_comm z.den a.den) in
    lowest_only (difference a z) a (positive_product a.den z.den apos zpos) apos same

-- lowest terms of value 0
pub lowest-zero : (z : Fraction) → z.num ≡ pos 0 → 0 < z.den → lowest z ≡ none
lowest-zero z zero zpos =
    lowest_is z none zpos (omega arith) (λ d p q. eq-one_of_dvd-one q)
    (ap (λ n. n *ℤ pos 1) zero ∙ sym (zero-*ℤ (pos z.den)))

-- lowest terms are their own
pub lowest-reduced : (a : Fraction) → IsReduced a → lowest a ≡ a
lowest-reduced a h = lowest_is a a h.positive h.positive h.coprime refl

-- what is checked depends on the value alone
pub checked_same : (a b : Fraction) → lowest a ≡ lowest b → checked a ≡ checked b
unfolding checked
checked_same a b h = ap (λ r. if is_small r then Ok r else Err Range) h

-- what holds if a check succeeds
pub record Passed (a r : Fraction) : Type 0 where
  pub is : lowest a ≡ r
  pub small : is_small (lowest a) ≡ true

-- the answer of a check by its test
abbrev answer_of : Bool → Fraction → Result Fraction NumErr
answer_of t a = if t then Ok a else Err Range

passed_by : (a r : Fraction) (t : Bool) → is_small (lowest a) ≡ t → answer_of t (lowest a) ≡ Ok r → Passed a r
passed_by a r true h e = record { is = cc; small = h }
passed_by a r false h e = absurd (cc)

pub passed : (a r : Fraction) → checked a ≡ Ok r → Passed a r
unfolding checked
passed a r e = passed_by a r (is_small (lowest a)) refl e

-- what holds if a check fails
pub record Failed (a : Fraction) (fault : NumErr) : Type 0 where
  pub is : fault ≡ Range
  pub large : is_small (lowest a) ≡ false

failed_by : (a : Fraction) (fault : NumErr) (t : Bool) → is_small (lowest a) ≡ t → answer_of t (lowest a) ≡ Err fault → Failed a fault
failed_by a fault true h e = absurd (cc)
failed_by a fault false h e = record { is = cc; large = h }

pub failed : (a : Fraction) (fault : NumErr) → checked a ≡ Err fault → Failed a fault
unfolding checked
failed a fault e = failed_by a fault (is_small (lowest a)) refl e

-- both terms of a small fraction
small_terms : (r : Fraction) → is_small r ≡ true → (unsigned_abs r.num ≤ 2 ^ 62) × (r.den ≤ 2 ^ 62)
small_terms r h = (grind (arith, nat_tests), grind (arith, nat_tests))

-- what passed is in lowest terms
pub IsReduced-checked : (a r : Fraction) → 0 < a.den → checked a ≡ Ok r → IsReduced r
IsReduced-checked a r h e =
    let p : Passed a r = passed a r e in
    let t : AreLowestTerms a r = subst (AreLowestTerms a) p.is (lowest_terms a h) in
    let s = small_terms r (subst (λ x. is_small x ≡ true) p.is p.small) in
    record { positive = t.positive; coprime = t.coprime; small_num = s.0; small_den = s.1 }

-- a fraction in lowest terms passes
pub checked-reduced : (a : Fraction) → IsReduced a → checked a ≡ Ok a
unfolding checked
checked-reduced a h =
    let hn = h.small_num in
    let hd = h.small_den in
    let small : is_small a ≡ true = grind (arith, nat_tests) in
    rw (lowest-reduced a h, small) refl

-- 0 is in lowest terms
pub IsReduced-none : IsReduced none
IsReduced-none = record { positive = omega arith; coprime = λ d p q. eq-one_of_dvd-one q; small_num = omega arith; small_den = omega arith }

-- a numerator of size 0
pub zero_from_size : (z : ℤ) → unsigned_abs z ≡ 0 → z ≡ pos 0
zero_from_size (pos n) h = ap pos h
zero_from_size (negsuc n) h = absurd (omega arith)

-- a fraction that is not other than 0
pub zero_num : (a : Fraction) → is_nonzero a ≡ false → a.num ≡ pos 0
zero_num a h = zero_from_size a.num (grind (arith, nat_tests))

pub nonzero_size : (a : Fraction) → is_nonzero a ≡ true → 0 < unsigned_abs a.num
nonzero_size a h = grind (arith, nat_tests)

pub nonzero_from_size : (a : Fraction) → 0 < unsigned_abs a.num → is_nonzero a ≡ true
nonzero_from_size a h = grind (arith, nat_tests)

pub zero_from_num : (a : Fraction) → a.num ≡ pos 0 → is_nonzero a ≡ false
zero_from_num a h = rw h refl

-- lowest terms that are 0 are none
pub reduced_zero : (a : Fraction) → IsReduced a → is_nonzero a ≡ false → a ≡ none
reduced_zero a h z = sym (lowest-reduced a h) ∙ lowest-zero a (zero_num a z) h.positive

-- a value other than 0 stays so in lowest terms
pub nonzero-lowest : (a : Fraction) → 0 < a.den → 0 < unsigned_abs a.num → 0 < unsigned_abs (lowest a).num
nonzero-lowest a h k =
    let t = lowest_terms a h in
    let e : unsigned_abs (lowest a).num * a.den ≡ unsigned_abs a.num * (lowest a).den =
    sym (unsigned_abs-mul (lowest a).num (pos a.den)) ∙ ap unsigned_abs t.value ∙ unsigned_abs-mul a.num (pos (lowest a).den) in
    let p : 0 < unsigned_abs a.num * (lowest a).den = positive_product _ _ k t.positive in
    elim (cases_lt 0 (unsigned_abs (lowest a).num)) [
      | inl lt ↦ lt
      | inr ge ↦
          let z : unsigned_abs (lowest a).num ≡ 0 = omega arith in
          absurd (omega (arith, ap (λ n. n * a.den) z, zero-mul a.den))
    ]
