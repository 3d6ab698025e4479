-- A slope where one discrete value changes.
use Rattle.qss_events.proofs.Common
use Common.{[], ℕ, ℤ, ◌*ℤ◌, ◌+ℤ◌, ◌+◌, ◌-ℤ◌, ◌-◌, ◌<◌, ◌==◌, ◌^◌, ◌||◌, ◌∙◌, ◌∷◌, ◌≡◌, ◌≢◌, ap}
use Common.{arith, Bool, coefficient_of, constant_part, eqb-false, false, get_or-set_other}
use Common.{get_or-set_same, if◌then◌else◌, int_at, ints, length, length-set, List, list_any}
use Common.{mode_coefficient, mul-sub, nearest_of, pos, Product, products_of, refl, slice_set}
use Common.{SlopeRow, sum_below, sum_below-same, sum_changed, true}
use Rattle.qss_events.specs.SlopeChanges.{SlopesFollowDiscretes}

neither : (a b : Bool) → (a || b) ≡ false → (a ≡ false) × (b ≡ false)
neither true b e = absurd (cc)
neither false b e = (refl, e)

-- products of other discrete values stay
products_same : (products : List Product) (first : ℕ) (discretes : List ℤ) (g : ℕ) (value : ℤ) (state : ℕ) →
    list_any (λ product. (product.discrete - first) == g) products ≡ false →
    products_of products first (slice_set discretes g value) state ≡ products_of products first discretes state
products_same [] first discretes g value state none = refl
products_same (product ∷ products) first discretes g value state none =
    let parts = neither ((product.discrete - first) == g) (list_any (λ product. (product.discrete - first) == g) products) none in
    let other : (product.discrete - first) ≢ g = eqb-false (product.discrete - first) g parts.0 in
    let same : int_at (slice_set discretes g value) (product.discrete - first) ≡ int_at discretes (product.discrete - first) =
    get_or-set_other discretes g (product.discrete - first) value (pos 0) other in
    ap (λ z. (if product.state == state then product.coef *ℤ z else pos 0) +ℤ products_of products first (slice_set discretes g value) state) same
    ∙ ap (λ z. (if product.state == state then product.coef *ℤ int_at discretes (product.discrete - first) else pos 0) +ℤ z)
    (products_same products first discretes g value state parts.1)

drive_follows : (n : ℕ) (row : SlopeRow) (discretes : List ℤ) (g : ℕ) (value : ℤ) → g < length discretes →
    constant_part n row (slice_set discretes g value) ≡ constant_part n row discretes +ℤ coefficient_of row.entries (n + g) *ℤ (value -ℤ int_at discretes g)
drive_follows n row discretes g value h =
    let c : ℕ → ℤ = λ i. coefficient_of row.entries (n + i) in
    let new = λ (i : ℕ). c i *ℤ int_at (slice_set discretes g value) i in
    let old = λ (i : ℕ). c i *ℤ int_at discretes i in
    let here : new g ≡ c g *ℤ value = ap (λ z. c g *ℤ z) (get_or-set_same discretes g value (pos 0) h) in
    let sum : sum_below (length discretes) new ≡ sum_below (length discretes) old +ℤ (new g -ℤ old g) =
    sum_changed (length discretes) g old new h (λ i below far. ap (λ z. c i *ℤ z) (get_or-set_other discretes g i value (pos 0) far)) in
    ap (λ (k : ℕ). sum_below k new +ℤ row.beta) (length-set discretes g value)
    ∙ omega (arith, ints, sum, here, mul-sub (c g) value (int_at discretes g))

pub slopes_follow_discretes : SlopesFollowDiscretes
slopes_follow_discretes bits row levels discretes g value h none =
    let n : ℕ = length levels in
    let modes : sum_below n (λ i. mode_coefficient bits n row (slice_set discretes g value) i *ℤ int_at levels i)
    ≡ sum_below n (λ i. mode_coefficient bits n row discretes i *ℤ int_at levels i) =
    sum_below-same n _ _
    (λ i below. ap (λ p. (coefficient_of row.entries i +ℤ nearest_of p (pos (2 ^ bits))) *ℤ int_at levels i) (products_same row.products n discretes g value i none)) in
    omega (arith, ints, modes, drive_follows n row discretes g value h)
