-- First ticks, and one tick more on a line.
use Rattle.qss_components.proofs.Common
use Common.{ℕ, ℤ, ◌*ℤ◌, ◌+ℤ◌, ◌∙◌, ◌≡◌, ◌≤◌, ap, arith, cases_lt, FirstAfter, inl, inr, ints, None}
use Common.{Option, pos, refl, Some, suc}
use Rattle.mu_num.proofs.Integers.{add-mul}

-- there is one first tick
pub first_one : (P : ℕ → Type 0) (from : ℕ) (a b : Option ℕ) → FirstAfter P from a → FirstAfter P from b → a ≡ b
first_one P from None None h k = refl
first_one P from None (Some n) none some = absurd (none n some.later some.in_time some.holds)
first_one P from (Some m) None some none = absurd (none m some.later some.in_time some.holds)
first_one P from (Some m) (Some n) s t =
    let below : n ≤ m = elim (cases_lt m n) [ inl less ↦ absurd (t.first m s.later less s.holds) | inr past ↦ past ] in
    let above : m ≤ n = elim (cases_lt n m) [ inl less ↦ absurd (s.first n t.later less t.holds) | inr past ↦ past ] in
    let same : m ≡ n = omega (arith, below, above) in
    ap (λ k. Some k) same

-- one tick more
pub one_more : (x s : ℤ) (k : ℕ) → x +ℤ pos (suc k) *ℤ s ≡ (x +ℤ pos k *ℤ s) +ℤ s
one_more x s k =
    let split : pos (suc k) ≡ pos k +ℤ pos 1 = omega (arith, ints) in
    let product : pos (suc k) *ℤ s ≡ pos k *ℤ s +ℤ pos 1 *ℤ s = ap (λ z. z *ℤ s) split ∙ add-mul (pos k) (pos 1) s in
    omega (arith, ints, product)

-- a next tick is the one that was found
pub same_tick : (tick found : ℕ) (next : Option ℕ) → Some tick ≡ next → next ≡ Some found → tick ≡ found
same_tick tick found next a b = cc

pub none_next : (tick : ℕ) (next : Option ℕ) → Some tick ≡ next → next ≡ None → ⊥
none_next tick next a b = cc
