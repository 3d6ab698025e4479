-- Numbers that are at most 2^126 in size.
use Rattle.cert_propose.proofs.Common
use Common.{[], ℕ, ℤ, ◌*ℤ◌, ◌*◌, ◌+ℤ◌, ◌+◌, ◌-ℤ◌, ◌<ℤ◌, ◌<◌, ◌≡◌, ◌≤ℤ◌, ◌≤◌, abs_of, arith, Bool}
use Common.{ceiling_of, false, get_or, get_or-map-range_with_len, int_max, ints, IsNumber}
use Common.{IsSquareTable, IsVector, least, length-map-range_with_len, List, neg_ℤ, Option, pos}
use Common.{ranged, ranged_less, ranged_product, ranged_sizes, ranged_sum, refl, Some, subst, suc}
use Common.{sum_below, sym, table_by, tabulate, true, unsigned_abs, Vector, vector, vector_by}
use Common.{weight, where_in_range, zero, zeros}
use Rattle.std.proofs.Common.{replicate}
use Rattle.std.specs.Prelude.{int_lt, cond}
use Rattle.std.specs.Int.{int_min}
use Rattle.std.proofs.lemmas.Int.{by_lt_z, unsigned_abs-mul}
use Rattle.std.proofs.lemmas.List.{length-replicate, get_or-replicate}
use Rattle.std.proofs.lemmas.List.FromFn.{fill_by_all}
use Rattle.mu_num.specs.Rounding.{floor_of}
use Rattle.mu_num.proofs.Quotients.{floor_meets}
use Rattle.cert_matrix.proofs.Order.{mul-≥}
use Rattle.cert_matrix.proofs.Ring.{expand}
use Rattle.cert_propose.proofs.Collected.{collected-at, collected-length}
use Rattle.cert_propose.proofs.Ranges.{kept}

-- ---- sums

where-number : (w : ℕ) (z y : ℤ) → unsigned_abs z ≤ w → where_in_range w z ≡ Some y → IsNumber y
where-number w z y small h = let k = kept w z y h in subst IsNumber (sym k.0) (omega (arith, k.1))

total-weight : (n : ℕ) (f g : Vector) → unsigned_abs (sum_below n (λ k. f k *ℤ g k)) ≤ weight n f g
total-weight zero f g = omega arith
total-weight (suc n) f g = let t = total-weight n f g in let m = unsigned_abs-mul (f n) (g n) in omega (arith, ints)

sizes-weight : (n : ℕ) (f g : Vector) → unsigned_abs (sum_below n (λ k. abs_of (f k) *ℤ g k)) ≤ weight n f g
sizes-weight zero f g = omega arith
sizes-weight (suc n) f g =
    let t = sizes-weight n f g in
    let m : unsigned_abs (abs_of (f n) *ℤ g n) ≡ unsigned_abs (f n) * unsigned_abs (g n) = unsigned_abs-mul (abs_of (f n)) (g n) in
    omega (arith, ints)

pub ranged-number : (base : ℤ) (n : ℕ) (f g : Vector) (y : ℤ) → ranged base n f g ≡ Some y → IsNumber y
ranged-number base n f g y h =
    let t = total-weight n f g in
    where-number (unsigned_abs base + weight n f g) (base +ℤ sum_below n (λ k. f k *ℤ g k)) y (omega (arith, ints)) h

pub ranged_sizes-number : (base : ℤ) (n : ℕ) (f g : Vector) (y : ℤ) → ranged_sizes base n f g ≡ Some y → IsNumber y
ranged_sizes-number base n f g y h =
    let t = sizes-weight n f g in
    where-number (unsigned_abs base + weight n f g) (base +ℤ sum_below n (λ k. abs_of (f k) *ℤ g k)) y (omega (arith, ints)) h

pub sum-number : (a b y : ℤ) → ranged_sum a b ≡ Some y → IsNumber y
sum-number a b y h = where-number (unsigned_abs a + unsigned_abs b) (a +ℤ b) y (omega (arith, ints)) h

pub product-number : (a b y : ℤ) → ranged_product a b ≡ Some y → IsNumber y
product-number a b y h = let m = unsigned_abs-mul a b in where-number (unsigned_abs a * unsigned_abs b) (a *ℤ b) y (omega (arith, m)) h

pub less-number : (a k b y : ℤ) → ranged_less a k b ≡ Some y → IsNumber y
less-number a k b y h =
    let m = unsigned_abs-mul k b in
    where-number (unsigned_abs a + unsigned_abs k * unsigned_abs b) (a -ℤ k *ℤ b) y (omega (arith, ints, m)) h

-- ---- quotients

pub floor-number : (n d : ℤ) → pos 1 ≤ℤ d → IsNumber n → IsNumber (floor_of n d)
floor-number n d d≥ small = by (floor_of n d) (floor_meets n d (omega (arith, ints))).at_most (floor_meets n d (omega (arith, ints))).greatest
  where
    by : (q : ℤ) → (d *ℤ q) ≤ℤ n → n <ℤ (d *ℤ q +ℤ d) → IsNumber q
    by q low high = by_lt_z q (pos 0) below above
      where
        above : pos 0 ≤ℤ q → IsNumber q
        above q≥ = let p = simp expand at (mul-≥ (d -ℤ pos 1) q (omega (arith, ints)) q≥) in omega (arith, ints)

        below : q <ℤ pos 0 → IsNumber q
        below q< = let p = simp expand at (mul-≥ (d -ℤ pos 1) (neg_ℤ q -ℤ pos 1) (omega (arith, ints)) (omega (arith, ints))) in omega (arith, ints)

pub ceiling-number : (n d : ℤ) → pos 1 ≤ℤ d → IsNumber n → IsNumber (ceiling_of n d)
ceiling-number n d d≥ small = let f = floor-number (neg_ℤ n) d d≥ (omega (arith, ints)) in omega (arith, ints)

-- what is at least 0 stays so
pub ceiling-≥ : (n d : ℤ) → pos 1 ≤ℤ d → pos 0 ≤ℤ n → pos 0 ≤ℤ ceiling_of n d
ceiling-≥ n d d≥ n≥ = by (floor_of (neg_ℤ n) d) (floor_meets (neg_ℤ n) d (omega (arith, ints))).at_most
  where
    by : (q : ℤ) → (d *ℤ q) ≤ℤ neg_ℤ n → pos 0 ≤ℤ neg_ℤ q
    by q low = by_lt_z (pos 0) q above (λ h. omega (arith, ints))
      where
        above : pos 0 <ℤ q → pos 0 ≤ℤ neg_ℤ q
        above q> = let p = simp expand at (mul-≥ (d -ℤ pos 1) q (omega (arith, ints)) (omega (arith, ints))) in omega (arith, ints)

-- ---- the greater and the less of two

either : (P : ℤ → Type 0) (t : Bool) (x y : ℤ) → P x → P y → P (cond t x y)
either P true x y p q = p
either P false x y p q = q

pub max-of : (P : ℤ → Type 0) (x y : ℤ) → P x → P y → P (int_max x y)
max-of P x y p q = either P (int_lt y x) x y p q

pub min-of : (P : ℤ → Type 0) (x y : ℤ) → P x → P y → P (int_min x y)
min-of P x y p q = either P (int_lt y x) y x q p

pub least-of : (P : ℤ → Type 0) (n : ℕ) (f : Vector) → P (f 0) → ((k : ℕ) → k < n → P (f k)) → P (least n f)
least-of P zero f first h = first
least-of P (suc n) f first h = min-of P (least n f) (f n) (least-of P n f first (λ k l. h k (omega arith))) (h n (omega arith))

-- ---- lists

pub vector-fits : (n : ℕ) (f : ℕ → Option ℤ) (xs : List ℤ) → ((k : ℕ) (y : ℤ) → k < n → f k ≡ Some y → IsNumber y) → vector_by n f ≡ Some xs → IsVector n xs
vector-fits n f xs small h = record {
  one_each = collected-length n f xs h;
  each = λ k d l. let abs_of = collected-length n f xs h in small k (get_or xs k d) (omega arith) (collected-at n k f xs d h (omega arith));
}

pub table-fits : (n : ℕ) (f : ℕ → ℕ → Option ℤ) (rows : List (List ℤ)) → ((i j : ℕ) (y : ℤ) → f i j ≡ Some y → IsNumber y) → table_by n f ≡ Some rows → IsSquareTable n rows
table-fits n f rows small h = record {
  one_each = collected-length n (λ i. vector_by n (f i)) rows h;
  each = λ k d l.
      let abs_of = collected-length n (λ i. vector_by n (f i)) rows h in
      vector-fits n (f k) (get_or rows k d) (λ j y m e. small k j y e) (collected-at n k (λ i. vector_by n (f i)) rows d h (omega arith));
}

pub tabulate-fits : (n : ℕ) (f : Vector) → ((k : ℕ) → k < n → IsNumber (f k)) → IsVector n (tabulate n f)
tabulate-fits n f small = record {
  one_each = length-map-range_with_len f 0 n;
  each = λ k d l.
      let abs_of = length-map-range_with_len f 0 n in
      let l' : k < n = omega arith in
      subst IsNumber (sym (get_or-map-range_with_len f 0 n k k d l' (omega arith))) (small k l');
}

pub zero-row : (n : ℕ) → IsVector n (replicate n (pos 0))
zero-row n = record {
  one_each = length-replicate n (pos 0);
  each = λ j e m. let inner = length-replicate n (pos 0) in subst IsNumber (sym (get_or-replicate n j (pos 0) e (omega arith))) (omega arith);
}

pub zeros-fit : (n : ℕ) → IsSquareTable n (zeros n)
zeros-fit n = record {
  one_each = length-replicate n (replicate n (pos 0));
  each = λ k d l.
      let abs_of = length-replicate n (replicate n (pos 0)) in
      subst (IsVector n) (sym (get_or-replicate n k (replicate n (pos 0)) d (omega arith))) (zero-row n);
}

-- a number of a list
pub number-at : (n k : ℕ) (xs : List ℤ) → IsVector n xs → k < n → IsNumber (vector xs k)
number-at n k xs fits h = let abs_of = fits.one_each in fits.each k (pos 0) (omega arith)

-- all places of a list
pub whole : (n : ℕ) (xs : List ℤ) → IsVector n xs → tabulate n (vector xs) ≡ xs
whole n xs fits = sym (fill_by_all (vector xs) xs n (pos 0) fits.one_each (λ k l. refl))
