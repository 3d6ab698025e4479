-- A value on a line crosses a bound at most once.
use Rattle.qss_cross.proofs.Common
use Common.{ℕ, ℤ, ◌*ℤ◌, ◌+ℤ◌, ◌-◌, ◌∙◌, ◌≡◌, ◌≢◌, ◌≤ℤ◌, ap, arith, bound_of, compares, Greater}
use Common.{GreaterEq, int_le, ints, Less, LessEq, not, pos, refl, Rel, subst, sym}
use Rattle.std.proofs.Common.{◌≤◌}
use Rattle.std.proofs.lemmas.Int.{by_lt_z}
use Rattle.mu_num.proofs.Integers.{add-mul, mul-nonneg, mul-nonpos}
use Rattle.qss_cross.specs.Crossing.{value_at, CrossesOnce}
use Rattle.qss_cross.proofs.Across.{differs_back, less_is, less_eq_is, greater_is}

rising_once : (b x d e : ℤ) → pos 0 ≤ℤ d → pos 0 ≤ℤ e → int_le b x ≢ int_le b (x +ℤ d) → int_le b ((x +ℤ d) +ℤ e) ≡ int_le b (x +ℤ d)
rising_once b x d e up on ne = grind (arith, ints)

falling_once : (b x d e : ℤ) → d ≤ℤ pos 0 → e ≤ℤ pos 0 → int_le b x ≢ int_le b (x +ℤ d) → int_le b ((x +ℤ d) +ℤ e) ≡ int_le b (x +ℤ d)
falling_once b x d e down on ne = grind (arith, ints)

same_to : (rel : Rel) (z v : ℤ) → int_le (bound_of rel) z ≡ int_le (bound_of rel) v → compares rel z ≡ compares rel v
same_to Less z v e = less_is z ∙ ap not e ∙ sym (less_is v)
same_to LessEq z v e = less_eq_is z ∙ ap not e ∙ sym (less_eq_is v)
same_to Greater z v e = greater_is z ∙ e ∙ sym (greater_is v)
same_to GreaterEq z v e = e

-- what a line adds from one tick to a later one
added : (x s : ℤ) (from first second : ℕ) → from ≤ first → first ≤ second →
    x +ℤ pos (second - from) *ℤ s ≡ (x +ℤ pos (first - from) *ℤ s) +ℤ pos (second - first) *ℤ s
added x s from first second h k =
    let split : pos (second - from) ≡ pos (first - from) +ℤ pos (second - first) = omega (arith, ints) in
    let product : pos (second - from) *ℤ s ≡ pos (first - from) *ℤ s +ℤ pos (second - first) *ℤ s = ap (λ z. z *ℤ s) split ∙ add-mul (pos (first - from)) (pos (second - first)) s in
    omega (arith, ints, product)

once_by : (b x d e s : ℤ) (k l : ℕ) → d ≡ pos k *ℤ s → e ≡ pos l *ℤ s → int_le b x ≢ int_le b (x +ℤ d) → int_le b ((x +ℤ d) +ℤ e) ≡ int_le b (x +ℤ d)
once_by b x d e s k l p q ne =
    by_lt_z s (pos 0)
    (λ less.
    let down : s ≤ℤ pos 0 = omega (arith, ints, less) in
    falling_once b x d e (omega (arith, ints, p, mul-nonpos k s down)) (omega (arith, ints, q, mul-nonpos l s down)) ne)
    (λ up. rising_once b x d e (omega (arith, ints, p, mul-nonneg k s up)) (omega (arith, ints, q, mul-nonneg l s up)) ne)

pub crosses_once : CrossesOnce
crosses_once w first second third from one two ne =
    let x : ℤ = value_at w first in
    let d : ℤ = pos (second - first) *ℤ w.speed in
    let e : ℤ = pos (third - second) *ℤ w.speed in
    let at_second : value_at w second ≡ x +ℤ d = added w.value w.speed w.tick first second from one in
    let at_third : value_at w third ≡ (x +ℤ d) +ℤ e =
    added w.value w.speed w.tick second third (omega (arith, from, one)) two ∙ ap (λ z. z +ℤ e) at_second in
    let ne' : int_le (bound_of w.rel) x ≢ int_le (bound_of w.rel) (x +ℤ d) =
    differs_back w.rel x (x +ℤ d) (subst (λ z. compares w.rel x ≢ compares w.rel z) at_second ne) in
    ap (compares w.rel) at_third
    ∙ same_to w.rel ((x +ℤ d) +ℤ e) (x +ℤ d) (once_by (bound_of w.rel) x d e w.speed (second - first) (third - second) refl refl ne')
    ∙ ap (compares w.rel) (sym at_second)
