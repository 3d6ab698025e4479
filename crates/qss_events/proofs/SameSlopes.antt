-- A row that reads no changed level and no changed discrete value has the same slope, and the same
-- absolute row sum.
use Rattle.qss_events.proofs.Common
use Common.{[], ℕ, ℤ, ◌&&◌, ◌*ℤ◌, ◌+ℤ◌, ◌+◌, ◌-◌, ◌<◌, ◌==◌, ◌^◌, ◌||◌, ◌∙◌, ◌∷◌, ◌≡◌, ◌≤◌, abs_of}
use Common.{All, ap, arith, Bool, cases_Bool, coefficient_of, Decides-int_eq, discrete_count, false}
use Common.{get_or, if◌then◌else◌, inl, inr, int_at, int_eq, length, List, list_any, Machine}
use Common.{mode_coefficient, nat_lt, nat_tests, nearest_of, not, pos, Product, products_of}
use Common.{range_with_len, refl, row_at, slope_at, slope_of, SlopeRow, Snapshot, state_count, suc}
use Common.{sum_below, sum_below-same, sym, true, weight_of, zero-*ℤ}
use Rattle.std.proofs.lemmas.Bool.{or_left, or_right, and_cases, false_from_ne_true, lt-ltb}
use Rattle.std.proofs.lemmas.List.Folds.{list_any_at}
use Rattle.std.proofs.lemmas.List.FromFn.{length-range_with_len, get_or-range_with_len}
use Rattle.mu_num.proofs.Tests.{if-true, if-false, eqb-yes}
use Rattle.qss_machine.specs.EventCounts.{has_changed, reads_change}
use Rattle.qss_machine.specs.Readers.{has_entry, row_reads}
use Rattle.qss_machine.proofs.Unread.{no_coefficient, unread_mode}

-- whether a product is of a variable
abbrev is_product : ℕ → Product → Bool
is_product var product = product.state == var || product.discrete == var

module _ (bits n k : ℕ) (row : SlopeRow) (old new before after : List ℤ) (old_many : length old ≡ n) (new_many : length new ≡ n) (before_many : length before ≡ k) (after_many : length after ≡ k)
    (known : All (λ product. (n ≤ product.discrete) × (product.discrete < n + k)) row.products)
    (level_same : (i : ℕ) → i < n → row_reads i row ≡ true → int_at new i ≡ int_at old i)
    (value_same : (g : ℕ) → g < k → row_reads (n + g) row ≡ true → int_at after g ≡ int_at before g) where
  products_same : (products : List Product) → All (λ product. (n ≤ product.discrete) × (product.discrete < n + k)) products →
      ((var : ℕ) → list_any (is_product var) products ≡ true → row_reads var row ≡ true) → (state : ℕ) → products_of products n after state ≡ products_of products n before state
  products_same [] all reads state = refl
  products_same (product ∷ products) all reads state =
      let here = all 0 product (omega arith) in
      let read : row_reads product.discrete row ≡ true = reads product.discrete (or_left _ _ (or_right (product.state == product.discrete) _ (eqb-yes product.discrete product.discrete refl))) in
      let e : n + (product.discrete - n) ≡ product.discrete = omega (arith, here.0) in
      let value : int_at after (product.discrete - n) ≡ int_at before (product.discrete - n) =
      value_same (product.discrete - n) (omega (arith, here.0, here.1)) (ap (λ (v : ℕ). row_reads v row) e ∙ read) in
      ap (λ z. (if product.state == state then product.coef *ℤ z else pos 0) +ℤ products_of products n after state) value
      ∙ ap (λ z. (if product.state == state then product.coef *ℤ int_at before (product.discrete - n) else pos 0) +ℤ z)
      (products_same products (λ i d h. all (suc i) d (omega (arith, h))) (λ var some. reads var (or_right (is_product var product) _ some)) state)

  pub mode_same : (i : ℕ) → mode_coefficient bits n row after i ≡ mode_coefficient bits n row before i
  mode_same i =
      ap (λ p. coefficient_of row.entries i +ℤ nearest_of p (pos (2 ^ bits)))
      (products_same row.products known (λ var some. or_right (has_entry var row.entries) (list_any (is_product var) row.products) some) i)

  -- the sum of a row at levels and discrete values, in which f takes each number
  abbrev whole : (ℤ → ℤ) → ℕ → ℕ → List ℤ → List ℤ → ℤ
  whole f i g levels discretes =
      sum_below i (λ j. f (mode_coefficient bits i row discretes j) *ℤ f (int_at levels j)) +ℤ (sum_below g (λ h. f (coefficient_of row.entries (i + h)) *ℤ f (int_at discretes h)) +ℤ f row.beta)

  module _ (f : ℤ → ℤ) (zero : f (pos 0) ≡ pos 0) where
    level_term : (i : ℕ) → i < n → f (mode_coefficient bits n row after i) *ℤ f (int_at new i) ≡ f (mode_coefficient bits n row before i) *ℤ f (int_at old i)
    level_term i h = elim (cases_Bool (row_reads i row)) [
      | inl reads ↦
          ap (λ z. f z *ℤ f (int_at new i)) (mode_same i) ∙ ap (λ z. f (mode_coefficient bits n row before i) *ℤ f z) (level_same i h reads)
      | inr none ↦
          let nothing : (discretes : List ℤ) → f (mode_coefficient bits n row discretes i) ≡ pos 0 = λ discretes. ap f (unread_mode bits n row discretes i none) ∙ zero in
          ap (λ z. z *ℤ f (int_at new i)) (nothing after) ∙ zero-*ℤ (f (int_at new i)) ∙ sym (zero-*ℤ (f (int_at old i))) ∙ sym (ap (λ z. z *ℤ f (int_at old i)) (nothing before))
    ]

    drive_term : (g : ℕ) → g < k → f (coefficient_of row.entries (n + g)) *ℤ f (int_at after g) ≡ f (coefficient_of row.entries (n + g)) *ℤ f (int_at before g)
    drive_term g h =
        let c : ℤ = f (coefficient_of row.entries (n + g)) in
        elim (cases_Bool (has_entry (n + g) row.entries)) [
          | inl has ↦ ap (λ z. c *ℤ f z) (value_same g h (or_left (has_entry (n + g) row.entries) _ has))
          | inr none ↦
              let nothing : c ≡ pos 0 = ap f (no_coefficient row.entries (n + g) none) ∙ zero in
              ap (λ z. z *ℤ f (int_at after g)) nothing ∙ zero-*ℤ (f (int_at after g)) ∙ sym (zero-*ℤ (f (int_at before g))) ∙ sym (ap (λ z. z *ℤ f (int_at before g)) nothing)
        ]

    sum_same : whole f (length new) (length after) new after ≡ whole f (length old) (length before) old before
    sum_same =
        ap (λ (i : ℕ). whole f i (length after) new after) new_many ∙ ap (λ (g : ℕ). whole f n g new after) after_many
        ∙ ap (λ z. z +ℤ (sum_below k (λ g. f (coefficient_of row.entries (n + g)) *ℤ f (int_at after g)) +ℤ f row.beta)) (sum_below-same n _ _ level_term)
        ∙ ap (λ z. sum_below n (λ i. f (mode_coefficient bits n row before i) *ℤ f (int_at old i)) +ℤ (z +ℤ f row.beta)) (sum_below-same k _ _ drive_term)
        ∙ sym (ap (λ (g : ℕ). whole f n g old before) before_many) ∙ sym (ap (λ (i : ℕ). whole f i (length before) old before) old_many)

  pub slope_same : slope_of bits row new after ≡ slope_of bits row old before
  slope_same = sum_same (λ z. z) refl

  pub weight_same : weight_of bits row new after ≡ weight_of bits row old before
  weight_same = sum_same abs_of refl

-- a number that a test finds unchanged is the same
same_number : (a b : ℤ) → not (int_eq a b) ≡ false → a ≡ b
same_number a b fails = by (int_eq a b) refl fails
  where
    by : (t : Bool) → int_eq a b ≡ t → not t ≡ false → a ≡ b
    by true e same = (Decides-int_eq a b).0 e
    by false e same = absurd (cc)

module _ (m : Machine) (w next : Snapshot) where
  -- a level that has not changed
  pub level_stays : (j : ℕ) → j < state_count m → has_changed m w next j ≡ false → int_at w.levels j ≡ int_at next.levels j
  level_stays j h none =
      same_number (int_at w.levels j) (int_at next.levels j)
      (sym (if-true (nat_lt j (state_count m)) (not (int_eq (int_at w.levels j) (int_at next.levels j))) (not (int_eq (int_at w.discretes (j - state_count m)) (int_at next.discretes (j - state_count m)))) (lt-ltb j (state_count m) h)) ∙ none)

  -- a discrete value that has not changed
  value_stays : (g : ℕ) → has_changed m w next (state_count m + g) ≡ false → int_at w.discretes g ≡ int_at next.discretes g
  value_stays g none =
      let n : ℕ = state_count m in
      let past : nat_lt (n + g) n ≡ false = grind (arith, nat_tests) in
      let e : (n + g) - n ≡ g = omega arith in
      same_number (int_at w.discretes g) (int_at next.discretes g)
      (ap (λ (i : ℕ). not (int_eq (int_at w.discretes i) (int_at next.discretes i))) (sym e)
      ∙ sym (if-false (nat_lt (n + g) n) (not (int_eq (int_at w.levels (n + g)) (int_at next.levels (n + g)))) (not (int_eq (int_at w.discretes ((n + g) - n)) (int_at next.discretes ((n + g) - n)))) past) ∙ none)

  -- what a row reads has not changed, where it reads no change
  stays : (row : SlopeRow) → reads_change m w next row ≡ false → (var : ℕ) → var < state_count m + discrete_count m → row_reads var row ≡ true → has_changed m w next var ≡ false
  stays row none var h reads =
      let many : ℕ = state_count m + discrete_count m in
      let test : ℕ → Bool = λ v. has_changed m w next v && row_reads v row in
      let first : 0 + var ≡ var = omega arith in
      let at : get_or (range_with_len 0 many) var 0 ≡ var = get_or-range_with_len 0 many var 0 h ∙ first in
      let fails : test var ≡ false = false_from_ne_true (test var) (λ passes.
      let found : list_any test (range_with_len 0 many) ≡ true = list_any_at test (range_with_len 0 many) var 0 (omega (arith, h, length-range_with_len 0 many)) (ap test at ∙ passes) in
      let none_found : list_any test (range_with_len 0 many) ≡ false = none in cc) in
      elim (and_cases (has_changed m w next var) (row_reads var row) fails) [
        | inl same ↦ same
        | inr unread ↦ absurd (cc)
      ]

  -- a state whose row reads no change has the same slope
  pub same_slope : (j : ℕ) → j < state_count m → length w.levels ≡ state_count m → length next.levels ≡ state_count m →
      length w.discretes ≡ discrete_count m → length next.discretes ≡ discrete_count m → reads_change m w next (row_at m j) ≡ false →
      slope_at m j next.levels next.discretes ≡ slope_at m j w.levels w.discretes
  same_slope j h old_many new_many before_many after_many none =
      let row : SlopeRow = record { entries = []; products = []; beta = pos 0 } in
      slope_same m.f (state_count m) (discrete_count m) (row_at m j) w.levels next.levels w.discretes next.discretes old_many new_many before_many after_many
      (m.has_rows.each j row (omega (arith, h, m.has_rows.one_each))).products.of_discretes
      (λ i inside reads. sym (level_stays i inside (stays (row_at m j) none i (omega (arith, inside)) reads)))
      (λ g inside reads. sym (value_stays g (stays (row_at m j) none (state_count m + g) (omega (arith, inside)) reads)))
