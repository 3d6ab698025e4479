-- That the quotients of Rounding are the numbers that their inequalities allow.
use Rattle.mu_num.proofs.Common
use Common.{*ℤ-one, ℕ, ℤ, ◌%◌, ◌*ℤ◌, ◌*◌, ◌+ℤ◌, ◌+◌, ◌-ℤ◌, ◌-◌, ◌<ℤ◌, ◌<◌, ◌^◌, ◌∙◌, ◌≡◌, ◌≢◌, ◌≤ℤ◌}
use Common.{◌≤◌, ap, arith, Bool, ceiling_of, even_of, false, FitsSigned, floor_of, if◌then◌else◌}
use Common.{int_lt, int_rem_euclid, ints, IsCeiling, IsFloor, IsNearest, mul-le-mul_right}
use Common.{nearest_of, neg_ℤ, negsuc, of_z, pos, pow-add, pow_pos, refl, suc, sym, true}
use Common.{unsigned_abs-mul, w128, zero}
use Rattle.std.proofs.lemmas.Int.{int_rem_euclid_is}
use Rattle.mu_num.proofs.Integers.{mul-add, mul-neg, mul-above}
use Rattle.mu_num.proofs.Tests.{if_cases, int_lt-true, int_lt-false, eqb-true, eqb-false}
use Rattle.std.specs.Int.RustNames.{unsigned_abs}
use Rattle.std.specs.Int.Signed.{shr_z}

pub floor_meets : (n d : ℤ) → pos 0 <ℤ d → IsFloor n d (floor_of n d)
floor_meets (pos a) (pos b) h = record { at_most = omega (arith, ints); greatest = omega (arith, ints) }
floor_meets (negsuc a) (pos b) h = record { at_most = omega (arith, ints); greatest = omega (arith, ints) }
floor_meets n (negsuc b) h = absurd (omega (arith, ints))

-- a shift to the right is a quotient by a power of two
pub shift_is : (n : ℤ) (m : ℕ) → shr_z n m ≡ floor_of n (pos m)
shift_is (pos a) m = refl
shift_is (negsuc a) m = refl

-- how far n is from d q, and from d (q + 1)
near_low : (n d q : ℤ) → (d *ℤ q) ≤ℤ n → (pos 2 *ℤ (n -ℤ d *ℤ q)) <ℤ d → IsNearest n d q
near_low n d q low h = record { near = omega (arith, ints); even = λ e. omega (arith, ints) }

near_high : (n d q : ℤ) → pos 0 <ℤ d → n <ℤ (d *ℤ q +ℤ d) → d <ℤ (pos 2 *ℤ (n -ℤ d *ℤ q)) → IsNearest n d (q +ℤ pos 1)
near_high n d q positive high h = record {
  near = omega (arith, ints, mul-add d q (pos 1), *ℤ-one d);
  even = λ e. omega (arith, ints, mul-add d q (pos 1), *ℤ-one d);
}

near_tie : (n d q : ℤ) → pos 0 <ℤ d → pos 2 *ℤ (n -ℤ d *ℤ q) ≡ d → unsigned_abs q % 2 ≡ 0 → IsNearest n d q
near_tie n d q positive h even = record { near = omega (arith, ints); even = λ e. even }

near_tie_up : (n d q : ℤ) → pos 0 <ℤ d → pos 2 *ℤ (n -ℤ d *ℤ q) ≡ d → unsigned_abs q % 2 ≢ 0 → IsNearest n d (q +ℤ pos 1)
near_tie_up n d q positive h odd = record {
  near = omega (arith, ints, mul-add d q (pos 1), *ℤ-one d);
  even = λ e. next_even q odd;
}
  where
    next_even : (q : ℤ) → unsigned_abs q % 2 ≢ 0 → unsigned_abs (q +ℤ pos 1) % 2 ≡ 0
    next_even (pos a) odd = omega arith
    next_even (negsuc zero) odd = refl
    next_even (negsuc (suc a)) odd = let e : unsigned_abs (negsuc (suc a) +ℤ pos 1) ≡ suc a = omega (arith, ints) in omega arith

-- by the three cases of twice the rest
nearest_by : (n d q : ℤ) → pos 0 <ℤ d → IsFloor n d q →
    IsNearest n d (if int_lt (pos 2 *ℤ (n -ℤ d *ℤ q)) d then q else if int_lt d (pos 2 *ℤ (n -ℤ d *ℤ q)) then q +ℤ pos 1 else even_of q (q +ℤ pos 1))
nearest_by n d q positive f =
    if_cases (IsNearest n d) _ _ _
    (λ e. near_low n d q f.at_most (int_lt-true _ _ e))
    (λ below. if_cases (IsNearest n d) _ _ _
    (λ e. near_high n d q positive f.greatest (int_lt-true _ _ e))
    (λ above.
    let tie : pos 2 *ℤ (n -ℤ d *ℤ q) ≡ d =
    omega (arith, ints, int_lt-false (pos 2 *ℤ (n -ℤ d *ℤ q)) d below, int_lt-false d (pos 2 *ℤ (n -ℤ d *ℤ q)) above) in
    if_cases (IsNearest n d) _ _ _
    (λ e. near_tie n d q positive tie (eqb-true _ _ e))
    (λ e. near_tie_up n d q positive tie (eqb-false _ _ e))))

pub nearest_meets : (n d : ℤ) → pos 0 <ℤ d → IsNearest n d (nearest_of n d)
nearest_meets n d h = nearest_by n d (floor_of n d) h (floor_meets n d h)

-- what is left of a number when it is rounded down
pub rem_is : (n d : ℤ) → pos 0 <ℤ d → int_rem_euclid n d ≡ n -ℤ d *ℤ floor_of n d
rem_is (pos a) (pos b) h = omega (arith, ints)
rem_is (negsuc a) (pos b) h = omega (arith, ints)
rem_is n (negsuc b) h = absurd (omega (arith, ints))

pub rest_is : (n d q r : ℤ) → pos 0 <ℤ d → q ≡ floor_of n d → r ≡ n -ℤ d *ℤ q → r ≡ int_rem_euclid n d
rest_is n d q r positive quotient rest = rest ∙ ap (λ q. n -ℤ d *ℤ q) quotient ∙ sym (rem_is n d positive)

-- what the bits of a number leave, divided by a power of two
pub low_is : (n : ℤ) (k : ℕ) → FitsSigned w128 n → k < 128 → pos (of_z w128 n % 2 ^ k) ≡ int_rem_euclid n (pos (2 ^ k))
low_is (pos a) k fits below = refl
low_is (negsuc a) k fits below =
    let all : (128 - k) + k ≡ 128 = omega arith in
    let parts : 2 ^ (128 - k) * 2 ^ k ≡ 2 ^ 128 = sym (pow-add 2 (128 - k) k) ∙ ap (λ m. 2 ^ m) all in
    sym (int_rem_euclid_is (negsuc a) (pos (2 ^ k)) (2 ^ k) (2 ^ (128 - k)) (of_z w128 (negsuc a)) (pow_pos k) refl (omega (arith, ints, parts)))

-- a quotient rounded to the nearest is hardly larger than what is divided
pub nearest_bound : (n d q : ℤ) → pos 0 <ℤ d → IsNearest n d q → unsigned_abs q ≤ unsigned_abs n + unsigned_abs d
nearest_bound n d q h f =
    let one : 1 ≤ unsigned_abs d = omega (arith, ints) in
    omega (arith, ints, f.near, unsigned_abs-mul d q, mul-le-mul_right (unsigned_abs q) one)

-- 0 is nearest to itself
pub nearest-zero : (d : ℤ) → pos 0 <ℤ d → nearest_of (pos 0) d ≡ pos 0
nearest-zero d h =
    let q = nearest_of (pos 0) d in
    let f = nearest_meets (pos 0) d h in
    let size : unsigned_abs (pos 0 -ℤ d *ℤ q) ≡ unsigned_abs d * unsigned_abs q = omega (arith, ints, unsigned_abs-mul d q) in
    zero_if q (unsigned_abs d) (omega (arith, ints)) (omega (arith, f.near, size))
  where
    zero_if : (q : ℤ) (d : ℕ) → 1 ≤ d → 2 * (d * unsigned_abs q) ≤ d → q ≡ pos 0
    zero_if (pos zero) d low high = refl
    zero_if (pos (suc n)) d low high = absurd (omega arith)
    zero_if (negsuc n) d low high = absurd (omega arith)

-- the inequalities allow one number
floor_below : (n d a b : ℤ) → pos 0 <ℤ d → IsFloor n d a → IsFloor n d b → a <ℤ b → ⊥
floor_below n d a b h first second low =
    let le = mul-above d a b h low in
    omega (arith, ints, le, first.at_most, first.greatest, second.at_most, second.greatest)

pub floor_only : (n d a b : ℤ) → pos 0 <ℤ d → IsFloor n d a → IsFloor n d b → a ≡ b
floor_only n d a b h first second = same (int_lt a b) (int_lt b a) refl refl
  where
    same : (x y : Bool) → int_lt a b ≡ x → int_lt b a ≡ y → a ≡ b
    same true y e f = absurd (floor_below n d a b h first second (int_lt-true a b e))
    same false true e f = absurd (floor_below n d b a h second first (int_lt-true b a f))
    same false false e f = let le = int_lt-false a b e in let ge = int_lt-false b a f in omega (arith, ints)

next_odd : (a : ℤ) → unsigned_abs a % 2 ≡ 0 → unsigned_abs (a +ℤ pos 1) % 2 ≡ 0 → ⊥
next_odd (pos a) even again = omega arith
next_odd (negsuc zero) even again = omega arith
next_odd (negsuc (suc a)) even again = let e : unsigned_abs (negsuc (suc a) +ℤ pos 1) ≡ suc a = omega (arith, ints) in omega arith

nearest_next : (n d a b : ℤ) → pos 0 <ℤ d → IsNearest n d a → IsNearest n d b → a <ℤ b → b ≡ a +ℤ pos 1
nearest_next n d a b h first second low = by_test (int_lt (a +ℤ pos 1) b) refl
  where
    by_test : (t : Bool) → int_lt (a +ℤ pos 1) b ≡ t → b ≡ a +ℤ pos 1
    by_test true e =
        let far = mul-above d (a +ℤ pos 1) b h (int_lt-true (a +ℤ pos 1) b e) in
        absurd (omega (arith, ints, far, first.near, second.near, mul-add d a (pos 1), *ℤ-one d))
    by_test false e = let le = int_lt-false (a +ℤ pos 1) b e in omega (arith, ints)

nearest_below_only : (n d a b : ℤ) → pos 0 <ℤ d → IsNearest n d a → IsNearest n d b → a <ℤ b → ⊥
nearest_below_only n d a b h first second low =
    let le = mul-above d a b h low in
    let next = nearest_next n d a b h first second low in
    let low_tie : 2 * unsigned_abs (n -ℤ d *ℤ a) ≡ unsigned_abs d = omega (arith, ints, le, first.near, second.near) in
    let high_tie : 2 * unsigned_abs (n -ℤ d *ℤ b) ≡ unsigned_abs d = omega (arith, ints, le, first.near, second.near) in
    next_odd a (first.even low_tie) (rw next at (second.even high_tie))

pub nearest_only : (n d a b : ℤ) → pos 0 <ℤ d → IsNearest n d a → IsNearest n d b → a ≡ b
nearest_only n d a b h first second = same (int_lt a b) (int_lt b a) refl refl
  where
    same : (x y : Bool) → int_lt a b ≡ x → int_lt b a ≡ y → a ≡ b
    same true y e f = absurd (nearest_below_only n d a b h first second (int_lt-true a b e))
    same false true e f = absurd (nearest_below_only n d b a h second first (int_lt-true b a f))
    same false false e f = let le = int_lt-false a b e in let ge = int_lt-false b a f in omega (arith, ints)

-- rounded up is rounded down with both signs turned
floor_of_ceiling : (n d q : ℤ) → IsCeiling n d q → IsFloor (neg_ℤ n) d (neg_ℤ q)
floor_of_ceiling n d q c = record { at_most = omega (arith, ints, c.at_least, mul-neg d q); greatest = omega (arith, ints, c.least, mul-neg d q) }

pub ceiling_meets : (n d : ℤ) → pos 0 <ℤ d → IsCeiling n d (ceiling_of n d)
ceiling_meets n d h =
    let f = floor_meets (neg_ℤ n) d h in
    let e = mul-neg d (floor_of (neg_ℤ n) d) in
    record { at_least = omega (arith, ints, f.at_most, e); least = omega (arith, ints, f.greatest, e) }

pub ceiling_only : (n d a b : ℤ) → pos 0 <ℤ d → IsCeiling n d a → IsCeiling n d b → a ≡ b
ceiling_only n d a b h first second =
    let e = floor_only (neg_ℤ n) d (neg_ℤ a) (neg_ℤ b) h (floor_of_ceiling n d a first) (floor_of_ceiling n d b second) in
    omega (arith, ints, e)

-- a number that its divisor divides
pub ceiling_exact : (n d : ℤ) → pos 0 <ℤ d → int_rem_euclid n d ≡ pos 0 → IsCeiling n d (floor_of n d)
ceiling_exact n d positive rest = record { at_least = omega (arith, ints, rem_is n d positive, rest); least = omega (arith, ints, rem_is n d positive, rest) }

-- and one that leaves a rest
pub ceiling_next : (n d : ℤ) → pos 0 <ℤ d → pos 0 <ℤ int_rem_euclid n d → IsCeiling n d (floor_of n d +ℤ pos 1)
ceiling_next n d positive rest = record {
  at_least = omega (arith, ints, (floor_meets n d positive).greatest, mul-add d (floor_of n d) (pos 1), *ℤ-one d);
  least = omega (arith, ints, rem_is n d positive, rest, mul-add d (floor_of n d) (pos 1), *ℤ-one d);
}
