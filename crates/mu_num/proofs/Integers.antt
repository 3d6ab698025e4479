-- Lemmas about products and absolute values of integers.
use Rattle.mu_num.proofs.Common
use Common.{*ℤ-one, ℕ, ℤ, ◌*ℤ◌, ◌*◌, ◌+ℤ◌, ◌-ℤ◌, ◌/◌, ◌<ℤ◌, ◌<◌, ◌∙◌, ◌≡◌, ◌≤ℤ◌, ap, arith, int_div}
use Common.{ints, mul-div_cancel, neg_ℤ, negsuc, pos, refl, suc, suc_ℤ-*ℤ, sym, zero, zero-*ℤ}
use Rattle.std.proofs.Math.Nat.{zero-div}
use Rattle.std.proofs.Math.IntN.{pred_ℤ-*ℤ, *ℤ_comm, *ℤ-zero, +ℤ_invr}

-- a product with a sum
pub mul-add : (a b c : ℤ) → a *ℤ (b +ℤ c) ≡ a *ℤ b +ℤ a *ℤ c
mul-add (pos zero) b c = omega (arith, ints, zero-*ℤ (b +ℤ c), zero-*ℤ b, zero-*ℤ c)
mul-add (pos (suc a)) b c =
    omega (arith, ints, mul-add (pos a) b c, suc_ℤ-*ℤ (pos a) (b +ℤ c), suc_ℤ-*ℤ (pos a) b, suc_ℤ-*ℤ (pos a) c)
mul-add (negsuc zero) b c =
    omega (arith, ints, zero-*ℤ (b +ℤ c), zero-*ℤ b, zero-*ℤ c, pred_ℤ-*ℤ (pos zero) (b +ℤ c), pred_ℤ-*ℤ (pos zero) b, pred_ℤ-*ℤ (pos zero) c)
mul-add (negsuc (suc a)) b c =
    omega (arith, ints, mul-add (negsuc a) b c, pred_ℤ-*ℤ (negsuc a) (b +ℤ c), pred_ℤ-*ℤ (negsuc a) b, pred_ℤ-*ℤ (negsuc a) c)

pub add-mul : (a b c : ℤ) → (a +ℤ b) *ℤ c ≡ a *ℤ c +ℤ b *ℤ c
add-mul a b c = omega (arith, ints, mul-add c a b, *ℤ_comm (a +ℤ b) c, *ℤ_comm a c, *ℤ_comm b c)

-- a product with an opposite
pub mul-neg : (a b : ℤ) → a *ℤ neg_ℤ b ≡ neg_ℤ (a *ℤ b)
mul-neg a b = omega (arith, ints, mul-add a b (neg_ℤ b), ap (λ z. a *ℤ z) (+ℤ_invr b), *ℤ-zero a)

pub neg-mul : (a b : ℤ) → neg_ℤ a *ℤ b ≡ neg_ℤ (a *ℤ b)
neg-mul a b = omega (arith, ints, mul-neg b a, *ℤ_comm (neg_ℤ a) b, *ℤ_comm a b)

-- a product with a difference
pub mul-sub : (a b c : ℤ) → a *ℤ (b -ℤ c) ≡ a *ℤ b -ℤ a *ℤ c
mul-sub a b c = omega (arith, ints, mul-add a b (neg_ℤ c), mul-neg a c)

-- three factors
mul_assoc-pos : (n : ℕ) (b c : ℤ) → (pos n *ℤ b) *ℤ c ≡ pos n *ℤ (b *ℤ c)
mul_assoc-pos zero b c = omega (arith, ints, ap (λ z. z *ℤ c) (zero-*ℤ b), zero-*ℤ c, zero-*ℤ (b *ℤ c))
mul_assoc-pos (suc a) b c =
    omega (arith, ints, mul_assoc-pos a b c, ap (λ z. z *ℤ c) (suc_ℤ-*ℤ (pos a) b), add-mul (pos a *ℤ b) b c, suc_ℤ-*ℤ (pos a) (b *ℤ c))

mul_assoc-neg : (a b c : ℤ) → (a *ℤ b) *ℤ c ≡ a *ℤ (b *ℤ c) → (neg_ℤ a *ℤ b) *ℤ c ≡ neg_ℤ a *ℤ (b *ℤ c)
mul_assoc-neg a b c e = omega (arith, ints, e, ap (λ z. z *ℤ c) (neg-mul a b), neg-mul (a *ℤ b) c, neg-mul a (b *ℤ c))

pub mul_assoc : (a b c : ℤ) → (a *ℤ b) *ℤ c ≡ a *ℤ (b *ℤ c)
mul_assoc (pos n) b c = mul_assoc-pos n b c
mul_assoc (negsuc n) b c = mul_assoc-neg (pos (suc n)) b c (mul_assoc-pos (suc n) b c)

pub one-mul : (a : ℤ) → pos 1 *ℤ a ≡ a
one-mul a = omega (arith, ints, zero-*ℤ a, suc_ℤ-*ℤ (pos zero) a)

-- the last two of three factors change places
pub mul_swap : (a b c : ℤ) → (a *ℤ b) *ℤ c ≡ (a *ℤ c) *ℤ b
mul_swap a b c = mul_assoc a b c ∙ ap (λ x. a *ℤ x) (*ℤ_comm b c) ∙ sym (mul_assoc a c b)

-- a multiple of a number that is not above 0
pub mul-nonpos : (m : ℕ) (z : ℤ) → z ≤ℤ pos 0 → (pos m *ℤ z) ≤ℤ pos 0
mul-nonpos zero z h = omega (arith, ints, zero-*ℤ z)
mul-nonpos (suc m) z h = omega (arith, ints, mul-nonpos m z h, suc_ℤ-*ℤ (pos m) z)

-- a multiple of a number that is not below 0
pub mul-nonneg : (m : ℕ) (z : ℤ) → pos 0 ≤ℤ z → pos 0 ≤ℤ (pos m *ℤ z)
mul-nonneg zero z h = omega (arith, ints, zero-*ℤ z)
mul-nonneg (suc m) z h = omega (arith, ints, mul-nonneg m z h, suc_ℤ-*ℤ (pos m) z)

-- a product of numbers that are not below 0
pub mul-from_zero : (a b : ℤ) → pos 0 ≤ℤ a → pos 0 ≤ℤ b → pos 0 ≤ℤ (a *ℤ b)
mul-from_zero (pos a) b h k = mul-nonneg a b k
mul-from_zero (negsuc a) b h k = absurd (omega (arith, ints))

-- a product with a greater number is greater by the factor at least
pub mul-above : (d a b : ℤ) → pos 0 <ℤ d → a <ℤ b → (d *ℤ a +ℤ d) ≤ℤ (d *ℤ b)
mul-above d a b h low =
    let gap : pos 0 ≤ℤ (b -ℤ (a +ℤ pos 1)) = omega (arith, ints) in
    let positive : pos 0 ≤ℤ d = omega (arith, ints) in
    omega (arith, ints, mul-from_zero d (b -ℤ (a +ℤ pos 1)) positive gap, mul-sub d b (a +ℤ pos 1), mul-add d a (pos 1), *ℤ-one d)

-- a natural with its sign turned, divided by a natural
pub neg-div : (m d : ℕ) → int_div (neg_ℤ (pos m)) (pos d) ≡ neg_ℤ (pos (m / d))
neg-div zero d = rw (zero-div d) refl
neg-div (suc m) d = refl

-- a product divided by its second factor
pub div-of_mul : (z : ℤ) (d : ℕ) → 0 < d → int_div (z *ℤ pos d) (pos d) ≡ z
div-of_mul (pos n) d h = ap pos (mul-div_cancel n h)
div-of_mul (negsuc n) d h = neg-div (suc n * d) d ∙ ap (λ x. neg_ℤ (pos x)) (mul-div_cancel (suc n) h)
