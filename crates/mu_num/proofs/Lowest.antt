-- A fraction in lowest terms is the one with the least denominator.
use Rattle.mu_num.proofs.Common
use Common.{ℕ, ℤ, ◌%◌, ◌*ℤ◌, ◌*◌, ◌+◌, ◌/◌, ◌<◌, ◌^◌, ◌∙◌, ◌∣◌, ◌≡◌, ◌≢◌, ◌≤◌, ◌⊎◌, ap, arith, Bool}
use Common.{cases_lt, checked, dvd-mul_right, eq-eqb, eqb-true, Err, false, Fraction, if◌then◌else◌}
use Common.{inl, inr, int_div, ints, IsCoprime, IsGcd, IsGcd-from_mod, IsGcd-from_zero, IsSameValue}
use Common.{le_of_dvd, lowest, mod_below, mul-div_cancel, mul-le-mul_right, nat_eq, nat_tests}
use Common.{neg_ℤ, negsuc, Ok, pos, pos_of_dvd_of_pos, Range, refl, subst, suc, sym, true}
use Common.{unsigned_abs, unsigned_abs-mul, zero}
use Rattle.std.proofs.Math.Nat.{mul_comm, dvd-mul_left, dvd_iff_mod-eq-zero, div-mul_cancel}
use Rattle.std.proofs.Math.Nat.{mul-dvd-mul_right, div-le_self}
use Rattle.mu_num.specs.Fraction.{least_multiplier, least_denominator}
use Rattle.mu_num.proofs.Divisors.{dvd_of_coprime}
use Rattle.mu_num.proofs.Integers.{mul_assoc, mul_swap, neg-mul, div-of_mul}

-- one step of the search, where the rest of it is right
search_step : (k n d q : ℕ) (rest : ℕ) (t : Bool) → nat_eq ((n * k) % d) 0 ≡ t → k ≤ q → (n * q) % d ≡ 0 → (k < q → (n * k) % d ≢ 0) → (k < q → rest ≡ q) → (if t then k else rest) ≡ q
search_step k n d q rest true e low hit none go =
    elim (cases_lt k q) [ inl lt ↦ absurd (none lt (eqb-true _ _ e)) | inr ge ↦ omega arith ]
search_step k n d q rest false e low hit none go =
    elim (cases_lt k q) [
      | inl lt ↦ go lt
      | inr ge ↦
          let same : k ≡ q = omega arith in
          let exceeds : nat_eq ((n * k) % d) 0 ≡ true = eq-eqb _ _ (subst (λ x. (n * x) % d ≡ 0) (sym same) hit) in
          cc
    ]

-- the search finds the first number that passes
least_multiplier_is : (more k n d q : ℕ) → k ≤ q → q ≤ k + more → (n * q) % d ≡ 0 → ((j : ℕ) → k ≤ j → j < q → (n * j) % d ≢ 0) → least_multiplier more k n d ≡ q
unfolding least_multiplier
least_multiplier_is zero k n d q low high hit none = omega arith
least_multiplier_is (suc more) k n d q low high hit none =
    search_step k n d q (least_multiplier more (suc k) n d) (nat_eq ((n * k) % d) 0) refl low hit
    (λ lt. none k (omega arith) lt)
    (λ lt. least_multiplier_is more (suc k) n d q (omega arith) (omega arith) hit (λ j above below. none j (omega arith) below))

-- equal factors cancel
pub cancel_right : (a b k : ℕ) → 0 < k → a * k ≡ b * k → a ≡ b
cancel_right a b k h e = sym (mul-div_cancel a h) ∙ ap (λ x. x / k) e ∙ mul-div_cancel b h

-- the sizes agree by cross multiplication too
sizes_agree : (a r : Fraction) → IsSameValue a r → unsigned_abs a.num * r.den ≡ unsigned_abs r.num * a.den
sizes_agree a r e = sym (unsigned_abs-mul a.num (pos r.den)) ∙ ap unsigned_abs e ∙ unsigned_abs-mul r.num (pos a.den)

-- a coprime pair symmetric
pub IsCoprime-swap : (a b : ℕ) → IsCoprime a b → IsCoprime b a
IsCoprime-swap a b h d p q = h d q p

-- no smaller denominator serves
none_below : (n d p q j : ℕ) → 0 < d → 0 < j → j < q → IsCoprime p q → n * q ≡ p * d → (n * j) % d ≢ 0
none_below n d p q j dpos jpos below coprime cross zero_rest =
    let m : ℕ = n * j / d in
    let whole : m * d ≡ n * j = div-mul_cancel d ((dvd_iff_mod-eq-zero d).1 zero_rest) in
    let one : (p * j) * d ≡ (q * m) * d = omega (arith, ap (λ x. x * j) cross, ap (λ x. q * x) whole) in
    let two : p * j ≡ q * m = cancel_right (p * j) (q * m) d dpos one in
    let three : q ∣ p * j = subst (λ x. q ∣ x) (sym two) (dvd-mul_right q m) in
    let four : q ≤ j = le_of_dvd jpos (dvd_of_coprime q p j (IsCoprime-swap p q coprime) three) in
    absurd (omega arith)

-- the least denominator is that of the lowest terms
least_denominator_is : (a r : Fraction) → 0 < a.den → 0 < r.den → IsCoprime (unsigned_abs r.num) r.den → IsSameValue a r → least_denominator a ≡ r.den
unfolding least_denominator
least_denominator_is a r apos rpos coprime same =
    let n : ℕ = unsigned_abs a.num in
    let p : ℕ = unsigned_abs r.num in
    let cross : n * r.den ≡ p * a.den = sizes_agree a r same in
    let divides : r.den ∣ p * a.den = subst (λ x. r.den ∣ x) cross (dvd-mul_left r.den n) in
    let high : r.den ≤ a.den = le_of_dvd apos (dvd_of_coprime r.den p a.den (IsCoprime-swap p r.den coprime) divides) in
    let hit : (n * r.den) % a.den ≡ 0 = (dvd_iff_mod-eq-zero a.den).0 (subst (λ x. a.den ∣ x) (sym cross) (dvd-mul_left a.den p)) in
    least_multiplier_is a.den 1 n a.den r.den (omega arith) (omega arith) hit
    (λ j above below. none_below n a.den p r.den j apos (omega arith) below coprime cross)

-- a coprime pair of the same value is the lowest terms
pub lowest_is : (a r : Fraction) → 0 < a.den → 0 < r.den → IsCoprime (unsigned_abs r.num) r.den → IsSameValue a r → lowest a ≡ r
unfolding lowest
lowest_is a r apos rpos coprime same =
    let least : least_denominator a ≡ r.den = least_denominator_is a r apos rpos coprime same in
    let top : int_div (a.num *ℤ pos (least_denominator a)) (pos a.den) ≡ r.num =
    rw (least, same) (div-of_mul r.num a.den apos) in
    rw (top, least) refl

-- an exact quotient times its divisor
exact_quotient : (z : ℤ) (g : ℕ) → g ∣ unsigned_abs z → int_div z (pos g) *ℤ pos g ≡ z
exact_quotient (pos n) g h = ap pos (div-mul_cancel g h)
exact_quotient (negsuc n) g h = neg-mul (pos (suc n / g)) (pos g) ∙ ap (λ x. neg_ℤ (pos x)) (div-mul_cancel g h)

-- the size of a quotient
size_of_quotient : (z : ℤ) (g : ℕ) → unsigned_abs (int_div z (pos g)) ≡ unsigned_abs z / g
size_of_quotient (pos n) g = refl
size_of_quotient (negsuc n) g = omega (arith, ints)

-- a common divisor of what is left after the greatest one is divided out is 1
pub coprime_quotients : (a b g : ℕ) → 0 < b → IsGcd a b g → IsCoprime (a / g) (b / g)
coprime_quotients a b g bpos h d p q =
    let gpos : 0 < g = pos_of_dvd_of_pos h.1 bpos in
    let dg_a : d * g ∣ a = subst (λ x. d * g ∣ x) (div-mul_cancel g h.0) (mul-dvd-mul_right d p g) in
    let dg_b : d * g ∣ b = subst (λ x. d * g ∣ x) (div-mul_cancel g h.1) (mul-dvd-mul_right d q g) in
    let le : d * g ≤ g = le_of_dvd gpos (h.2 (d * g) dg_a dg_b) in
    let dpos : 0 < d * g = pos_of_dvd_of_pos dg_b bpos in
    elim (cases_lt 1 d) [
      | inl lt ↦ absurd (omega (arith, mul-le-mul_right g lt))
      | inr le ↦ elim (cases_lt 0 d) [ inl lt ↦ omega arith | inr z ↦ let e : d ≡ 0 = omega arith in absurd (omega (arith, ap (λ x. x * g) e)) ]
    ]

-- top over bottom is the lowest terms of a numerator over a denominator
pub record IsLowest (num : ℤ) (den : ℕ) (top : ℤ) (bottom : ℕ) : Type 0 where
  pub positive : 0 < bottom
  pub coprime : IsCoprime (unsigned_abs top) bottom
  pub same : num *ℤ pos bottom ≡ top *ℤ pos den
  pub value : lowest (record { num = num; den = den }) ≡ record { num = top; den = bottom }

-- the greatest common divisor leaves the lowest terms
pub lowest_by_divisor : (num : ℤ) (den g : ℕ) → 0 < den → IsGcd (unsigned_abs num) den g → IsLowest num den (int_div num (pos g)) (den / g)
lowest_by_divisor num den g dpos h =
    let r : Fraction = record { num = int_div num (pos g); den = den / g } in
    let exact : den / g * g ≡ den = div-mul_cancel g h.1 in
    let positive : 0 < den / g = elim (cases_lt 0 (den / g)) [ inl lt ↦ lt | inr z ↦ let e : den / g ≡ 0 = omega arith in absurd (omega (arith, ap (λ x. x * g) e)) ] in
    let coprime : IsCoprime (unsigned_abs (int_div num (pos g))) (den / g) = rw (size_of_quotient num g) (coprime_quotients (unsigned_abs num) den g dpos h) in
    let top : int_div num (pos g) *ℤ pos g ≡ num = exact_quotient num g h.0 in
    let same : num *ℤ pos (den / g) ≡ int_div num (pos g) *ℤ pos den =
    ap (λ x. x *ℤ pos (den / g)) (sym top) ∙ mul_assoc (int_div num (pos g)) (pos g) (pos (den / g))
    ∙ ap (λ x. int_div num (pos g) *ℤ pos x) (mul_comm g (den / g) ∙ exact) in
    record {
      positive = positive;
      coprime = coprime;
      same = same;
      value = lowest_is (record { num = num; den = den }) r dpos positive coprime same;
    }

-- small lowest terms are the checked value
pub checked_ok : (a r : Fraction) → lowest a ≡ r → unsigned_abs r.num ≤ 2 ^ 62 → r.den ≤ 2 ^ 62 → checked a ≡ Ok r
unfolding checked
checked_ok a r e num den = rw e (grind (arith, nat_tests))

-- lowest terms that are not small are out of range
pub checked_err : (a r : Fraction) → lowest a ≡ r → (2 ^ 62 < unsigned_abs r.num) ⊎ (2 ^ 62 < r.den) → checked a ≡ Err Range
unfolding checked
checked_err a r e (inl large) = rw e (grind (arith, nat_tests))
checked_err a r e (inr large) = rw e (grind (arith, nat_tests))

-- the same for the results of the calls
pub lowest_from_calls : (num top top' : ℤ) (den g u : ℕ) → 0 < den → u ≡ unsigned_abs num → IsGcd u den g → top ≡ int_div num (pos g) → top' ≡ top → IsLowest num den top' (den / g)
lowest_from_calls num top top' den g u pos_den size h quotient same =
    rw (same, quotient) (lowest_by_divisor num den g pos_den (subst (λ x. IsGcd x den g) size h))

-- two numbers have a greatest common divisor
gcd_within : (n a b : ℕ) → b ≤ n → (g : ℕ) × IsGcd a b g
gcd_within n a zero le = (a, IsGcd-from_zero a 0 refl)
gcd_within zero a (suc b) le = absurd (omega arith)
gcd_within (suc n) a (suc b) le =
    let small : a % suc b ≤ n = omega (arith, mod_below a (suc b) (omega arith)) in
    let rest : (g : ℕ) × IsGcd (suc b) (a % suc b) g = gcd_within n (suc b) (a % suc b) small in
    (rest.0, IsGcd-from_mod a (suc b) rest.0 rest.1)

-- the lowest terms of a fraction
pub record AreLowestTerms (a r : Fraction) : Type 0 where
  pub positive : 0 < r.den
  pub value : IsSameValue r a
  pub coprime : IsCoprime (unsigned_abs r.num) r.den
  pub num_size : unsigned_abs r.num ≤ unsigned_abs a.num
  pub den_size : r.den ≤ a.den

pub lowest_terms : (a : Fraction) → 0 < a.den → AreLowestTerms a (lowest a)
lowest_terms a h =
    let divisor : (g : ℕ) × IsGcd (unsigned_abs a.num) a.den g = gcd_within a.den (unsigned_abs a.num) a.den (omega arith) in
    let l : IsLowest a.num a.den (int_div a.num (pos divisor.0)) (a.den / divisor.0) = lowest_by_divisor a.num a.den divisor.0 h divisor.1 in
    let terms : AreLowestTerms a (record { num = int_div a.num (pos divisor.0); den = a.den / divisor.0 }) = record {
      positive = l.positive;
      value = sym l.same;
      coprime = l.coprime;
      num_size = rw (size_of_quotient a.num divisor.0) (div-le_self (unsigned_abs a.num) divisor.0);
      den_size = div-le_self a.den divisor.0;
    } in
    subst (AreLowestTerms a) (sym l.value) terms

-- equal factors of whole numbers cancel
cancel_factor : (x y : ℤ) (d : ℕ) → 0 < d → x *ℤ pos d ≡ y *ℤ pos d → x ≡ y
cancel_factor x y d h e = sym (div-of_mul x d h) ∙ ap (λ z. int_div z (pos d)) e ∙ div-of_mul y d h

-- two fractions with the value of a third have one value
pub same_value : (a b r : Fraction) → 0 < a.den → IsSameValue r a → IsSameValue a b → IsSameValue b r
same_value a b r h e f =
    cancel_factor (b.num *ℤ pos r.den) (r.num *ℤ pos b.den) a.den h
    (mul_swap b.num (pos r.den) (pos a.den) ∙ ap (λ z. z *ℤ pos r.den) (sym f) ∙ mul_swap a.num (pos b.den) (pos r.den)
    ∙ ap (λ z. z *ℤ pos b.den) (sym e) ∙ mul_swap r.num (pos a.den) (pos b.den))

-- fractions of one value have the same lowest terms
pub lowest_only : (a b : Fraction) → 0 < a.den → 0 < b.den → IsSameValue a b → lowest a ≡ lowest b
lowest_only a b h k same =
    let t = lowest_terms a h in
    sym (lowest_is b (lowest a) k t.positive t.coprime (same_value a b (lowest a) h t.value same))
