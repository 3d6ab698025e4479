-- The first number that passes.
use Rattle.cert_propose.proofs.Common
use Common.{[], ℕ, ℤ, ◌*ℤ◌, ◌+ℤ◌, ◌+◌, ◌<ℤ◌, ◌<◌, ◌^◌, ◌≡◌, ◌≤◌, ◌⊎◌, abs_of, arith, Bool, cases_lt}
use Common.{false, inl, inr, int_le, ints, le-ltb, lt-ltb, None, pos, pow_below, range_with_len}
use Common.{ranged_sizes, refl, Some, subst, suc, sum_below, true, Vector, weight, zero}
use Rattle.std.proofs.Common.{◌&&◌}
use Rattle.std.specs.Prelude.{position}
use Rattle.std.specs.List.{list_all, position_or_len}
use Rattle.std.proofs.lemmas.List.FromFn.{length-range_with_len}
use Rattle.cert_propose.proofs.Ranges.{within}

pub all-pass : (test : ℕ → Bool) (a n : ℕ) → ((k : ℕ) → k < n → test (a + k) ≡ true) → list_all test (range_with_len a n) ≡ true
all-pass test a zero h = refl
all-pass test a (suc n) h =
    let here : test a ≡ true = subst (λ (i : ℕ). test i ≡ true) (omega arith) (h 0 (omega arith)) in
    let rest = all-pass test (a + 1) n (λ k l. subst (λ (i : ℕ). test i ≡ true) (omega arith) (h (suc k) (omega arith))) in
    rw (here, rest) refl

pub one-fails : (test : ℕ → Bool) (a n k : ℕ) → k < n → test (a + k) ≡ false → list_all test (range_with_len a n) ≡ false
one-fails test a zero k l h = absurd (omega arith)
one-fails test a (suc n) zero l h = let here : test a ≡ false = subst (λ (i : ℕ). test i ≡ false) (omega arith) h in rw here refl
one-fails test a (suc n) (suc k) l h =
    let rest = one-fails test (a + 1) n k (omega arith) (subst (λ (i : ℕ). test i ≡ false) (omega arith) h) in
    by (test a) rest
  where
    by : (t : Bool) → list_all test (range_with_len (a + 1) n) ≡ false → (t && list_all test (range_with_len (a + 1) n)) ≡ false
    by true rest = rest
    by false rest = refl

place : (test : ℕ → Bool) (a n i : ℕ) → i < n → test (a + i) ≡ true → ((k : ℕ) → k < i → test (a + k) ≡ false) → position_or_len test (range_with_len a n) ≡ i
place test a zero i l h before = absurd (omega arith)
place test a (suc n) zero l h before = let here : test a ≡ true = subst (λ (i : ℕ). test i ≡ true) (omega arith) h in rw here refl
place test a (suc n) (suc i) l h before =
    let here : test a ≡ false = subst (λ (k : ℕ). test k ≡ false) (omega arith) (before 0 (omega arith)) in
    let rest = place test (a + 1) n i (omega arith) (subst (λ (k : ℕ). test k ≡ true) (omega arith) h)
    (λ k m. subst (λ (j : ℕ). test j ≡ false) (omega arith) (before (suc k) (omega arith))) in
    rw here (omega (arith, rest))

nowhere : (test : ℕ → Bool) (a n : ℕ) → ((k : ℕ) → k < n → test (a + k) ≡ false) → position_or_len test (range_with_len a n) ≡ n
nowhere test a zero before = refl
nowhere test a (suc n) before =
    let here : test a ≡ false = subst (λ (k : ℕ). test k ≡ false) (omega arith) (before 0 (omega arith)) in
    let rest = nowhere test (a + 1) n (λ k m. subst (λ (j : ℕ). test j ≡ false) (omega arith) (before (suc k) (omega arith))) in
    rw here (omega (arith, rest))

pub first-place : (test : ℕ → Bool) (n i : ℕ) → i < n → test i ≡ true → ((k : ℕ) → k < i → test k ≡ false) → position test (range_with_len 0 n) ≡ Some i
first-place test n i l h before =
    let at = place test 0 n i l (subst (λ (j : ℕ). test j ≡ true) (omega arith) h) (λ k m. subst (λ (j : ℕ). test j ≡ false) (omega arith) (before k m)) in
    let all = length-range_with_len 0 n in
    rw (at, all) (rw (lt-ltb i n l) refl)

pub no-place : (test : ℕ → Bool) (n : ℕ) → ((k : ℕ) → k < n → test k ≡ false) → position test (range_with_len 0 n) ≡ None
no-place test n before =
    let at = nowhere test 0 n (λ k m. subst (λ (j : ℕ). test j ≡ false) (omega arith) (before k m)) in
    let all = length-range_with_len 0 n in
    rw (at, all) (rw (le-ltb n n (omega arith)) refl)

-- the sizes of a row, as they are added
pub sizes-are : (n : ℕ) (f : Vector) → pos 0 +ℤ sum_below n (λ k. abs_of (f k) *ℤ pos 1) ≡ sum_below n (λ k. abs_of (f k))
sizes-are zero f = refl
sizes-are (suc n) f = omega (arith, ints, sizes-are n f)

pub sizes-weigh : (n : ℕ) (f : Vector) → pos (weight n f (λ k. pos 1)) ≡ sum_below n (λ k. abs_of (f k))
sizes-weigh zero f = refl
sizes-weigh (suc n) f = omega (arith, ints, sizes-weigh n f)

-- the first n numbers
pub all-below : (test : ℕ → Bool) (n : ℕ) → ((k : ℕ) → k < n → test k ≡ true) → list_all test (range_with_len 0 n) ≡ true
all-below test n h = all-pass test 0 n (λ k l. subst (λ (j : ℕ). test j ≡ true) (omega arith) (h k l))

pub one-below : (test : ℕ → Bool) (n k : ℕ) → k < n → test k ≡ false → list_all test (range_with_len 0 n) ≡ false
one-below test n k l h = one-fails test 0 n k l (subst (λ (j : ℕ). test j ≡ false) (omega arith) h)

-- sizes that are out of range are far above 2^q
pub far-above : (n q : ℕ) (f : Vector) → q < 64 → ranged_sizes (pos 0) n f (λ j. pos 1) ≡ None → int_le (pos 16 *ℤ sum_below n (λ j. abs_of (f j))) (pos (2 ^ q)) ≡ false
far-above n q f few h = by (cases_lt (2 ^ 126) (0 + weight n f (λ j. pos 1)))
  where
    by : (2 ^ 126 < 0 + weight n f (λ j. pos 1)) ⊎ (0 + weight n f (λ j. pos 1) ≤ 2 ^ 126) → int_le (pos 16 *ℤ sum_below n (λ j. abs_of (f j))) (pos (2 ^ q)) ≡ false
    by (inr within-range) = let some = within (0 + weight n f (λ j. pos 1)) (pos 0 +ℤ sum_below n (λ j. abs_of (f j) *ℤ pos 1)) within-range in absurd (cc)
    by (inl far) =
        let same = sizes-weigh n f in
        let low = pow_below q 64 few in
        fails (pos 16 *ℤ sum_below n (λ j. abs_of (f j))) (pos (2 ^ q)) (omega (arith, ints))
      where
        fails : (a b : ℤ) → b <ℤ a → int_le a b ≡ false
        fails a b h = grind (arith, ints, h)
