-- How many numbers below n pass a test.
use Rattle.qss_states.proofs.Common
use Common.{[], ℕ, ◌+◌, ◌<◌, ◌∙◌, ◌∷◌, ◌≡◌, ◌≢◌, ◌≤◌, ap, arith, Bool, cases_eq, count_by, false}
use Common.{if-false, if◌then◌else◌, inl, inr, range_with_len, refl, sum_by-cons, sym, true}
use Rattle.std.proofs.Common.{zero, suc, cond, add-one}
use Rattle.std.proofs.lemmas.List.Sums.{sum_by-append}
use Rattle.qss_events.proofs.LevelRows.{range_more}

-- one for a test that passes
abbrev pub one_if : Bool → ℕ
one_if b = if b then 1 else 0

one_is : (b : Bool) → cond b 1 0 ≡ one_if b
one_is true = refl
one_is false = refl

-- the same number by recursion
abbrev below : ℕ → (ℕ → Bool) → ℕ
below zero test = 0
below (suc n) test = below n test + one_if (test n)

count_is : (n : ℕ) (test : ℕ → Bool) → count_by test (range_with_len 0 n) ≡ below n test
count_is zero test = refl
count_is (suc n) test =
    let f : ℕ → ℕ = λ k. cond (test k) 1 0 in
    let last : 0 + n ≡ n = omega arith in
    let all : count_by test (range_with_len 0 (suc n)) ≡ count_by test (range_with_len 0 n) + count_by test ((0 + n) ∷ []) =
    ap (count_by test) (range_more 0 n) ∙ sum_by-append f (range_with_len 0 n) ((0 + n) ∷ []) in
    let one : count_by test ((0 + n) ∷ []) ≡ f (0 + n) + 0 = sum_by-cons f (0 + n) [] in
    let own : f (0 + n) ≡ one_if (test n) = ap f last ∙ one_is (test n) in
    omega (arith, all, one, own, count_is n test)

pub count_more : (n : ℕ) (test : ℕ → Bool) → count_by test (range_with_len 0 (n + 1)) ≡ count_by test (range_with_len 0 n) + one_if (test n)
count_more n test = omega (arith, count_is (n + 1) test, count_is n test, ap (λ k. below k test) (add-one n))

one_less : (a b : Bool) → (b ≡ false → a ≡ false) → one_if a ≤ one_if b
one_less false b h = omega arith
one_less true true h = omega arith
one_less true false h = let e : true ≡ false = h refl in absurd (cc)

less_below : (n : ℕ) (p q : ℕ → Bool) → ((j : ℕ) → j < n → q j ≡ false → p j ≡ false) → below n p ≤ below n q
less_below zero p q h = omega arith
less_below (suc n) p q h =
    let rest = less_below n p q (λ j inside. h j (omega (arith, inside))) in
    let own = one_less (p n) (q n) (h n (omega arith)) in
    omega (arith, rest, own)

same_below : (n : ℕ) (p q : ℕ → Bool) → ((j : ℕ) → j < n → p j ≡ q j) → below n p ≡ below n q
same_below n p q h = omega (arith, less_below n p q (λ j inside e. h j inside ∙ e), less_below n q p (λ j inside e. sym (h j inside) ∙ e))

one_below : (n j : ℕ) (p q : ℕ → Bool) → j < n → q j ≡ false → ((k : ℕ) → k ≢ j → q k ≡ p k) → below n q + one_if (p j) ≡ below n p
one_below zero j p q h fails others = absurd (omega (arith, h))
one_below (suc n) j p q h fails others = elim (cases_eq j n) [
  | inl e ↦
      let same : below n q ≡ below n p = same_below n q p (λ k inside. others k (λ f. omega (arith, e, f, inside))) in
      let here : one_if (q n) ≡ 0 = if-false {A = ℕ} (q n) 1 0 (ap q (sym e) ∙ fails) in
      let there : one_if (p j) ≡ one_if (p n) = ap (λ k. one_if (p k)) e in
      omega (arith, same, here, there)
  | inr other ↦
      let rest = one_below n j p q (omega (arith, h, other)) fails others in
      let here : one_if (q n) ≡ one_if (p n) = ap one_if (others n (λ f. other (sym f))) in
      omega (arith, rest, here)
]

-- fewer pass a test where what fails another one fails it too
pub count_less : (n : ℕ) (p q : ℕ → Bool) → ((j : ℕ) → j < n → q j ≡ false → p j ≡ false) → count_by p (range_with_len 0 n) ≤ count_by q (range_with_len 0 n)
count_less n p q h = omega (arith, count_is n p, count_is n q, less_below n p q h)

pub count_same : (n : ℕ) (p q : ℕ → Bool) → ((j : ℕ) → j < n → p j ≡ q j) → count_by p (range_with_len 0 n) ≡ count_by q (range_with_len 0 n)
count_same n p q h = count_is n p ∙ same_below n p q h ∙ sym (count_is n q)

-- one number alone fails the test where it passed or failed another one
pub count_one : (n j : ℕ) (p q : ℕ → Bool) → j < n → q j ≡ false → ((k : ℕ) → k ≢ j → q k ≡ p k) →
    count_by q (range_with_len 0 n) + one_if (p j) ≡ count_by p (range_with_len 0 n)
count_one n j p q h fails others = omega (arith, count_is n p, count_is n q, one_below n j p q h fails others)

none_below : (n : ℕ) (p : ℕ → Bool) → ((j : ℕ) → j < n → p j ≡ false) → below n p ≡ 0
none_below zero p h = refl
none_below (suc n) p h =
    let own : one_if (p n) ≡ 0 = if-false {A = ℕ} (p n) 1 0 (h n (omega arith)) in
    omega (arith, own, none_below n p (λ j inside. h j (omega (arith, inside))))

pub count_none : (n : ℕ) (p : ℕ → Bool) → ((j : ℕ) → j < n → p j ≡ false) → count_by p (range_with_len 0 n) ≡ 0
count_none n p h = count_is n p ∙ none_below n p h
