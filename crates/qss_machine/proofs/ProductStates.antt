-- The states of which products are, in the order of their states.
use Rattle.qss_machine.proofs.Common
use Common.{+ℤ_idl, +ℤ_idr, [], ℕ, ℤ, ◌*ℤ◌, ◌*◌, ◌+ℤ◌, ◌+◌, ◌-◌, ◌<◌, ◌==◌, ◌^◌, ◌∙◌, ◌∷◌, ◌≡◌, ◌≢◌}
use Common.{◌≤◌, add-zero, ap, AreProducts, arith, cases_lt, coefficient_of, eqb-no, exceeds, false}
use Common.{get_or, get_or-map, if-false, inl, inr, int_at, IsRow, IsStrictlyIncreasing, IsWithin}
use Common.{length, length-map, List, map, mode_coefficient, mul-le-mul_right, nat_tests}
use Common.{nearest-zero, nearest_of, pos, Product, products_of, refl, slice_index, SlopeRow, subst}
use Common.{suc, sum_below, sum_below-same, sum_below-split, sum_below-zero, zero}
use Rattle.std.proofs.lemmas.List.{get_or_default}
use Rattle.qss_machine.proofs.Distinct.{coefficient_small}
use Rattle.qss_machine.proofs.Powers.{power_positive}

-- no product is of this state
abbrev pub IsFree : List Product → ℕ → Type 0
IsFree products state = (k : ℕ) (d : Product) → k < length products → (get_or products k d).state ≢ state

-- the first i products are of states below a number
abbrev pub AreBelow : List Product → ℕ → ℕ → Type 0
AreBelow products i past = (k : ℕ) (d : Product) → k < i → (get_or products k d).state < past

-- ---- the order of products

pub rising_to : (xs : List ℕ) → IsStrictlyIncreasing xs → (k m : ℕ) → k + m < length xs → slice_index xs k ≤ slice_index xs (k + m)
rising_to xs rising k zero h = rw add-zero (omega arith)
rising_to xs rising k (suc m) h =
    let step : slice_index xs (k + m) < slice_index xs (k + m + 1) = rising (k + m) (omega (arith, h)) in
    let same : k + m + 1 ≡ k + suc m = omega arith in
    omega (arith, rising_to xs rising k m (omega (arith, h)), subst (λ (i : ℕ). slice_index xs (k + m) < slice_index xs i) same step)

-- of two numbers of digits the greater has no lesser first digit
first_digit : (n a b x y : ℕ) → x < n → y < n → a * n + x ≤ b * n + y → a ≤ b
first_digit n a b x y small also le = elim (cases_lt b a) [
  | inl less ↦ (let more : (b + 1) * n ≤ a * n = mul-le-mul_right n (omega (arith, less)) in absurd (omega (arith, more, le, also)))
  | inr not ↦ not
]

module _ (n count : ℕ) (products : List Product) (are : AreProducts n count products) where
  key : Product → ℕ
  key product = product.state * (n + count) + product.discrete

  pub rising_states : (i k : ℕ) (c d : Product) → i ≤ k → k < length products → (get_or products i c).state ≤ (get_or products k d).state
  unfolding key
  rising_states i k c d le inside =
      let keys : List ℕ = map key products in
      let many : length keys ≡ length products = length-map products key in
      let at_i : slice_index keys i ≡ key (get_or products i c) = get_or-map key products i c 0 (omega (arith, le, inside)) in
      let at_k : slice_index keys k ≡ key (get_or products k d) = get_or-map key products k d 0 inside in
      let there : i + (k - i) ≡ k = omega (arith, le) in
      let ordered : slice_index keys i ≤ slice_index keys k =
      subst (λ (m : ℕ). slice_index keys i ≤ slice_index keys m) there (rising_to keys are.rising i (k - i) (omega (arith, le, inside, many))) in
      let first = are.of_discretes i c (omega (arith, le, inside)) in
      let last = are.of_discretes k d inside in
      first_digit (n + count) (get_or products i c).state (get_or products k d).state (get_or products i c).discrete (get_or products k d).discrete (omega (arith, first.1)) (omega (arith, last.1))
      (omega (arith, at_i, at_k, ordered))

  -- between the states of two products that follow each other there is none
  pub free_between : (i past : ℕ) (d : Product) → i < length products → AreBelow products i past → (state : ℕ) → past ≤ state → state < (get_or products i d).state → IsFree products state
  free_between i past d inside below state from to k e within same = elim (cases_lt k i) [
    | inl earlier ↦ absurd (omega (arith, below k e earlier, from, same))
    | inr later ↦ absurd (omega (arith, rising_states i k d e later within, to, same))
  ]

-- nor after the last one
pub free_behind : (products : List Product) (i past : ℕ) → length products ≤ i → AreBelow products i past → (state : ℕ) → past ≤ state → IsFree products state
free_behind products i past all below state from k d within same = omega (arith, below k d (omega (arith, within, all)), from, same)

pub below_one_more : (products : List Product) (i past next : ℕ) (d : Product) → i < length products → AreBelow products i past → past ≤ next → (get_or products i d).state < next →
    AreBelow products (i + 1) next
below_one_more products i past next d inside below le last k e h = elim (cases_lt k i) [
  | inl earlier ↦ omega (arith, below k e earlier, le)
  | inr later ↦
      let same : i ≡ k = omega (arith, later, h) in
      subst (λ (m : ℕ). (get_or products m e).state < next) same (subst (λ (p : Product). p.state < next) (get_or_default products i d e inside) last)
]

-- ---- what products give a state of which there are none

pub none_of : (products : List Product) (first : ℕ) (discretes : List ℤ) (state : ℕ) → IsFree products state → products_of products first discretes state ≡ pos 0
none_of [] first discretes state free = refl
none_of (product ∷ products) first discretes state free =
    ap (λ z. z +ℤ products_of products first discretes state)
    (if-false (product.state == state) (product.coef *ℤ int_at discretes (product.discrete - first)) (pos 0) (eqb-no product.state state (free 0 product (omega arith))))
    ∙ +ℤ_idl (products_of products first discretes state)
    ∙ none_of products first discretes state (λ k d within. free (suc k) d (omega (arith, within)))

pub none_rounded : (products : List Product) (bits first : ℕ) (discretes : List ℤ) (state : ℕ) → IsFree products state →
    nearest_of (products_of products first discretes state) (pos (2 ^ bits)) ≡ pos 0
none_rounded products bits first discretes state free =
    ap (λ z. nearest_of z (pos (2 ^ bits))) (none_of products first discretes state free) ∙ nearest-zero (pos (2 ^ bits)) (power_positive bits)

-- its mode coefficient is its own one
pub own_mode : (bits n : ℕ) (row : SlopeRow) (discretes : List ℤ) (state : ℕ) → IsFree row.products state → mode_coefficient bits n row discretes state ≡ coefficient_of row.entries state
own_mode bits n row discretes state free =
    ap (λ z. coefficient_of row.entries state +ℤ z) (none_rounded row.products bits n discretes state free) ∙ +ℤ_idr (coefficient_of row.entries state)

-- and is within the limit
pub own_mode_fits : (bits n count : ℕ) (row : SlopeRow) (discretes : List ℤ) (state : ℕ) → IsRow n count row → IsFree row.products state →
    exceeds 44 (mode_coefficient bits n row discretes state) ≡ false
own_mode_fits bits n count row discretes state is free =
    let small : IsWithin 44 (coefficient_of row.entries state) = coefficient_small row.entries state is.entries.rising is.coefficients in
    ap (exceeds 44) (own_mode bits n row discretes state free) ∙ grind (arith, nat_tests)

-- ---- sums over states

-- a sum over more indices, which contribute 0
pub sum_past : (f : ℕ → ℤ) (low high : ℕ) → low ≤ high → ((i : ℕ) → low ≤ i → i < high → f i ≡ pos 0) → sum_below high f ≡ sum_below low f
sum_past f low high le none =
    let there : high ≡ low + (high - low) = omega (arith, le) in
    ap (λ n. sum_below n f) there ∙ sum_below-split low (high - low) f
    ∙ ap (λ z. sum_below low f +ℤ z)
    (sum_below-same (high - low) (λ i. f (low + i)) (λ i. pos 0) (λ i h. none (low + i) (omega arith) (omega (arith, h))) ∙ sum_below-zero (high - low))
    ∙ +ℤ_idr (sum_below low f)
