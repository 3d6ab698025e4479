-- The absolute row sum is the sum of the entries' part, the products' part and the size of the constant.
use Rattle.qss_machine.proofs.Common
use Common.{[], ℕ, ℤ, ◌*ℤ◌, ◌++◌, ◌+ℤ◌, ◌+◌, ◌-ℤ◌, ◌<◌, ◌==◌, ◌∙◌, ◌∷◌, ◌≡◌, ◌≤ℤ◌, abs_of, add-mul}
use Common.{ap, arith, coefficient_of, Entry, get_or-append-add, get_or_append_left, if◌then◌else◌}
use Common.{int_at, ints, IsStrictlyIncreasing, length, length-append, length-map, List, map}
use Common.{mode_coefficient, pos, refl, slope_of, SlopeRow, suc, sum_below, sum_below-add}
use Common.{sum_below-same, sum_below-split, sum_over, sym, unsigned_abs, unsigned_abs-mul}
use Common.{weight_of, zero}
use Rattle.std.proofs.Math.IntN.{pos-*ℤ-pos}
use Rattle.std.proofs.Math.ListN.{get_or-map}
use Rattle.qss_machine.proofs.SumLaws.{weighted_sum-entries}
use Rattle.qss_machine.proofs.Distinct.{plain, coefficient_size}

pub size-mul : (a b : ℤ) → abs_of a *ℤ abs_of b ≡ abs_of (a *ℤ b)
size-mul a b = pos-*ℤ-pos (unsigned_abs a) (unsigned_abs b) ∙ ap pos (sym (unsigned_abs-mul a b))

sum_over-map : {X Y : Type 0} (g : X → Y) (f : Y → ℤ) (xs : List X) → sum_over f (map g xs) ≡ sum_over (λ x. f (g x)) xs
sum_over-map g f [] = refl
sum_over-map g f (x ∷ xs) = ap (λ z. f (g x) +ℤ z) (sum_over-map g f xs)

sum_over-alike : {X : Type 0} (f g : X → ℤ) (xs : List X) → ((x : X) → f x ≡ g x) → sum_over f xs ≡ sum_over g xs
sum_over-alike f g [] h = refl
sum_over-alike f g (x ∷ xs) h = ap (λ z. z +ℤ sum_over f xs) (h x) ∙ ap (λ z. g x +ℤ z) (sum_over-alike f g xs h)

size_at : (values : List ℤ) (var : ℕ) → int_at (map abs_of values) var ≡ abs_of (int_at values var)
size_at values var = get_or-map abs_of values var (pos 0)

-- the sizes of coefficients times the sizes of values
pub sizes_sum : List Entry → List ℤ → ℤ
sizes_sum entries values = sum_below (length values) (λ var. abs_of (coefficient_of entries var) *ℤ abs_of (int_at values var))

pub sizes_sum-entries : (entries : List Entry) (values : List ℤ) → IsStrictlyIncreasing (map (λ (entry : Entry). entry.var) entries) →
    sum_below (length values) (λ var. abs_of (coefficient_of entries var) *ℤ abs_of (int_at values var)) ≡ sum_over (λ (entry : Entry). abs_of (entry.coef *ℤ int_at values entry.var)) entries
sizes_sum-entries entries values rising =
    let each = λ (var : ℕ).
    sum_over-map plain (λ (entry : Entry). if entry.var == var then entry.coef else pos 0) entries ∙ coefficient_size entries var rising in
    sym (sum_below-same (length values) (λ var. coefficient_of (map plain entries) var *ℤ int_at (map abs_of values) var) (λ var. abs_of (coefficient_of entries var) *ℤ abs_of (int_at values var))
    (λ var h. ap (λ z. z *ℤ int_at (map abs_of values) var) (each var) ∙ ap (λ z. abs_of (coefficient_of entries var) *ℤ z) (size_at values var)))
    ∙ ap (λ n. sum_below n (λ var. coefficient_of (map plain entries) var *ℤ int_at (map abs_of values) var)) (sym (length-map values abs_of))
    ∙ weighted_sum-entries (map plain entries) (map abs_of values)
    ∙ sum_over-map plain (λ (entry : Entry). entry.coef *ℤ int_at (map abs_of values) entry.var) entries
    ∙ sum_over-alike (λ (entry : Entry). abs_of entry.coef *ℤ int_at (map abs_of values) entry.var) (λ (entry : Entry). abs_of (entry.coef *ℤ int_at values entry.var)) entries
    (λ entry. ap (λ z. abs_of entry.coef *ℤ z) (size_at values entry.var) ∙ size-mul entry.coef (int_at values entry.var))

-- the entries over levels and discrete values
sizes_split : (row : SlopeRow) (levels discretes : List ℤ) →
    sum_below (length (levels ++ discretes)) (λ v. abs_of (coefficient_of row.entries v) *ℤ abs_of (int_at (levels ++ discretes) v)) ≡
    sum_below (length levels) (λ i. abs_of (coefficient_of row.entries i) *ℤ abs_of (int_at levels i))
    +ℤ sum_below (length discretes) (λ g. abs_of (coefficient_of row.entries (length levels + g)) *ℤ abs_of (int_at discretes g))
sizes_split row levels discretes =
    let f = λ (v : ℕ). abs_of (coefficient_of row.entries v) *ℤ abs_of (int_at (levels ++ discretes) v) in
    let low = sum_below-same (length levels) f (λ i. abs_of (coefficient_of row.entries i) *ℤ abs_of (int_at levels i))
    (λ i h. ap (λ z. abs_of (coefficient_of row.entries i) *ℤ abs_of z) (get_or_append_left levels discretes (pos 0) i h)) in
    let high = sum_below-same (length discretes) (λ g. f (length levels + g)) (λ g. abs_of (coefficient_of row.entries (length levels + g)) *ℤ abs_of (int_at discretes g))
    (λ g h. ap (λ z. abs_of (coefficient_of row.entries (length levels + g)) *ℤ abs_of z) (get_or-append-add levels discretes g (pos 0))) in
    ap (λ n. sum_below n f) (length-append levels discretes) ∙ sum_below-split (length levels) (length discretes) f
    ∙ ap (λ z. z +ℤ sum_below (length discretes) (λ g. f (length levels + g))) low
    ∙ ap (λ z. sum_below (length levels) (λ i. abs_of (coefficient_of row.entries i) *ℤ abs_of (int_at levels i)) +ℤ z) high

pub weight_parts : (bits : ℕ) (row : SlopeRow) (levels discretes : List ℤ) →
    sum_below (length (levels ++ discretes)) (λ v. abs_of (coefficient_of row.entries v) *ℤ abs_of (int_at (levels ++ discretes) v))
    +ℤ sum_below (length levels) (λ i. (abs_of (mode_coefficient bits (length levels) row discretes i) -ℤ abs_of (coefficient_of row.entries i)) *ℤ abs_of (int_at levels i))
    +ℤ abs_of row.beta
    ≡ weight_of bits row levels discretes
weight_parts bits row levels discretes =
    let a = λ (i : ℕ). abs_of (coefficient_of row.entries i) in
    let full = λ (i : ℕ). abs_of (mode_coefficient bits (length levels) row discretes i) in
    let modes : sum_below (length levels) (λ i. full i *ℤ abs_of (int_at levels i)) ≡
    sum_below (length levels) (λ i. a i *ℤ abs_of (int_at levels i)) +ℤ sum_below (length levels) (λ i. (full i -ℤ a i) *ℤ abs_of (int_at levels i)) =
    sum_below-same (length levels) (λ i. full i *ℤ abs_of (int_at levels i)) (λ i. a i *ℤ abs_of (int_at levels i) +ℤ (full i -ℤ a i) *ℤ abs_of (int_at levels i))
    (λ i h. ap (λ z. z *ℤ abs_of (int_at levels i)) (back (full i) (a i)) ∙ add-mul (a i) (full i -ℤ a i) (abs_of (int_at levels i)))
    ∙ sum_below-add (length levels) (λ i. a i *ℤ abs_of (int_at levels i)) (λ i. (full i -ℤ a i) *ℤ abs_of (int_at levels i)) in
    regroup (sum_below (length (levels ++ discretes)) (λ v. a v *ℤ abs_of (int_at (levels ++ discretes) v))) (sum_below (length levels) (λ i. a i *ℤ abs_of (int_at levels i)))
    (sum_below (length discretes) (λ g. abs_of (coefficient_of row.entries (length levels + g)) *ℤ abs_of (int_at discretes g)))
    (sum_below (length levels) (λ i. (full i -ℤ a i) *ℤ abs_of (int_at levels i))) (sum_below (length levels) (λ i. full i *ℤ abs_of (int_at levels i))) (abs_of row.beta)
    (sizes_split row levels discretes) modes
  where
    back : (z a : ℤ) → z ≡ a +ℤ (z -ℤ a)
    back z a = omega (arith, ints)

    regroup : (w a d r m b : ℤ) → w ≡ a +ℤ d → m ≡ a +ℤ r → w +ℤ r +ℤ b ≡ m +ℤ (d +ℤ b)
    regroup w a d r m b e f = omega (arith, ints)

-- the size of a sum is at most the sum of what its terms' sizes are at most
sizes_below : (n : ℕ) (f g : ℕ → ℤ) → ((i : ℕ) → i < n → abs_of (f i) ≤ℤ g i) → abs_of (sum_below n f) ≤ℤ sum_below n g
sizes_below zero f g h = omega (arith, ints)
sizes_below (suc n) f g h =
    let before = sizes_below n f g (λ i low. h i (omega arith)) in
    let last = h n (omega arith) in
    omega (arith, ints, before, last)

-- the size of a slope is at most the absolute row sum
pub slope-within_weight : (bits : ℕ) (row : SlopeRow) (levels discretes : List ℤ) → abs_of (slope_of bits row levels discretes) ≤ℤ weight_of bits row levels discretes
slope-within_weight bits row levels discretes =
    let product : (a b : ℤ) → abs_of (a *ℤ b) ≤ℤ (abs_of a *ℤ abs_of b) = λ a b. let e = size-mul a b in omega (arith, ints, e) in
    let mode = λ (i : ℕ). mode_coefficient bits (length levels) row discretes i in
    let own = λ (g : ℕ). coefficient_of row.entries (length levels + g) in
    let first = sizes_below (length levels) (λ i. mode i *ℤ int_at levels i) (λ i. abs_of (mode i) *ℤ abs_of (int_at levels i)) (λ i h. product (mode i) (int_at levels i)) in
    let second = sizes_below (length discretes) (λ g. own g *ℤ int_at discretes g) (λ g. abs_of (own g) *ℤ abs_of (int_at discretes g)) (λ g h. product (own g) (int_at discretes g)) in
    three (sum_below (length levels) (λ i. mode i *ℤ int_at levels i)) (sum_below (length discretes) (λ g. own g *ℤ int_at discretes g)) row.beta
    (sum_below (length levels) (λ i. abs_of (mode i) *ℤ abs_of (int_at levels i))) (sum_below (length discretes) (λ g. abs_of (own g) *ℤ abs_of (int_at discretes g))) first second
  where
    three : (a b c x y : ℤ) → abs_of a ≤ℤ x → abs_of b ≤ℤ y → abs_of (a +ℤ (b +ℤ c)) ≤ℤ (x +ℤ (y +ℤ abs_of c))
    three a b c x y h k = omega (arith, ints)
