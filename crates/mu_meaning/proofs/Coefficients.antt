-- The coefficients of rounded lists are the rounded coefficients.
use Rattle.mu_meaning.proofs.Common
use Common.{[], ℕ, ℤ, ◌&&◌, ◌*ℤ◌, ◌+ℤ◌, ◌<◌, ◌^◌, ◌∙◌, ◌∷◌, ◌≡◌, AllByRecursion, ap, arith, Bool}
use Common.{coefficient_of, false, Fraction, if◌then◌else◌, ints, IsRounded, List, map, none, pos}
use Common.{product_coefficient, refl, rounded_entries, rounded_products, Some, sym, true}
use Common.{unwrap_or, zero-*ℤ}
use Rattle.std.proofs.Common.{cond}
use Rattle.std.specs.Prelude.{◌==◌}
use Rattle.std.specs.List.{filter}
use Rattle.std.specs.List.Sorted.{IsStrictlySortedBy}
use Rattle.std.specs.declared.cmp.Ordering.{Ordering}
use Rattle.std.specs.declared.cmp.Ordering.TheVariants.{Less, Equal, Greater}
use Rattle.std.specs.Ordering.{ordering_then, nat_cmp, is_eq}
use Rattle.std.specs.Cmp.{ranked}
use Rattle.std.specs.BTreeMap.{is_at}
use Rattle.std.specs.Map.{lookup, keys_of}
use Rattle.std.proofs.Math.IntN.{+ℤ_idl, +ℤ_idr}
use Rattle.std.proofs.lemmas.Map.Keys.{sorted_head, sorted_tail}
use Rattle.mu_num.specs.IndexedSums.{sum_over}
use Rattle.mu_num.specs.Rounding.{nearest_of}
use Rattle.mu_num.proofs.Quotients.{nearest_meets, nearest-zero}
use Rattle.mu_num.proofs.Tests.{eqb-yes, eqb-no}
use Rattle.mu_affine.specs.declared.exact_form.ExactEntry.{ExactEntry}
use Rattle.mu_affine.specs.declared.exact_form.ExactProduct.{ExactProduct}
use Rattle.mu_affine.specs.FormRows.{named, paired, pair_cmp, value_at}
use Rattle.mu_affine.specs.Rounded.{rounded, is_some_number, entry_of, product_of}
use Rattle.mu_affine.proofs.RowForms.{IsKeyOrder, nat_order, pair_order}
use Rattle.qss_machine.specs.declared.machine_parts.Entry.{Entry}
use Rattle.qss_machine.specs.declared.machine_parts.Product.{Product}

-- a rounded number is near the exact one
pub rounded_near : (bits : ℕ) (a : Fraction) → 0 < a.den → IsRounded bits a (rounded bits a)
rounded_near bits a h = nearest_meets (a.num *ℤ pos (2 ^ bits)) (pos a.den) (omega (arith, ints))

rounded-none : (bits : ℕ) → rounded bits none ≡ pos 0
rounded-none bits = ap (λ z. nearest_of z (pos 1)) (zero-*ℤ (pos (2 ^ bits))) ∙ nearest-zero (pos 1)
    (omega (arith, ints))

-- numbers that are 0 can be left out of a sum
kept_sum : {E Y : Type 0} (make : E → Y) (coef f : Y → ℤ) → ((y : Y) → coef y ≡ pos 0 → f y ≡ pos 0)
    → (es : List E) → sum_over f (filter (λ y. is_some_number (coef y)) (map make es)) ≡ sum_over
    (λ e. f (make e)) es
kept_sum {E} {Y} make coef f zero [] = refl
kept_sum {E} {Y} make coef f zero (e ∷ es) = by_test (is_some_number (coef (make e))) refl
    (kept_sum make coef f zero es)
  where
    is_zero : (z : ℤ) → is_some_number z ≡ false → z ≡ pos 0
    is_zero z h = grind (arith, ints)

    by_test : (t : Bool) → is_some_number (coef (make e)) ≡ t → sum_over f
        (filter (λ y. is_some_number (coef y)) (map make es)) ≡ sum_over (λ e. f (make e)) es
        → sum_over f (cond t (make e ∷ filter (λ y. is_some_number (coef y)) (map make es))
        (filter (λ y. is_some_number (coef y)) (map make es))) ≡ f (make e) +ℤ sum_over
        (λ e. f (make e)) es
    by_test true is rest = ap (λ z. f (make e) +ℤ z) rest
    by_test false is rest =
        rest ∙ sym (+ℤ_idl (sum_over (λ e. f (make e)) es)) ∙ ap
        (λ z. z +ℤ sum_over (λ e. f (make e)) es)
        (sym (zero (make e) (is_zero (coef (make e)) is)))

sum_over_map : {E C : Type 0} (view : E → C) (f : C → ℤ) (es : List E) → sum_over (λ e. f (view e))
    es ≡ sum_over f (map view es)
sum_over_map view f [] = refl
sum_over_map view f (e ∷ es) = ap (λ z. f (view e) +ℤ z) (sum_over_map view f es)

-- ---- the number at a key of a sorted list

module _ {K : Type 0} (R : K → K → Ordering) (order : IsKeyOrder R) (bits : ℕ) (k : K)
    (test : K → Bool) (at_key : (q : K) → test q ≡ is_eq (R k q)) where
  number_if : K × Fraction → ℤ
  number_if c = if test c.0 then rounded bits c.1 else pos 0

  passed_over : (c : K × Fraction) → test c.0 ≡ false → number_if c ≡ pos 0
  unfolding number_if
  passed_over c h = ap (λ b. if b then rounded bits c.1 else pos 0) h

  -- there is none past the key
  none_there : (cs : List (K × Fraction)) → AllByRecursion (λ q. R k q ≡ Less) (keys_of cs) →
      sum_over number_if cs ≡ pos 0
  none_there [] h = refl
  none_there (c ∷ cs) h =
      ap (λ z. z +ℤ sum_over number_if cs) (passed_over c (at_key c.0 ∙ ap is_eq h.0)) ∙ +ℤ_idl
      (sum_over number_if cs) ∙ none_there cs h.1

  at_value : (cs : List (K × Fraction)) → IsStrictlySortedBy R (keys_of cs) → sum_over number_if cs
      ≡ rounded bits (value_at R cs k)
  unfolding number_if
  at_value [] s = sym (rounded-none bits)
  at_value (c ∷ cs) s = by_order (R k c.0) refl (at_value cs (sorted_tail R c.0 (keys_of cs) s))
    where
      other : is_eq (R k c.0) ≡ false → sum_over number_if cs ≡ rounded bits (value_at R cs k) →
          sum_over number_if (c ∷ cs) ≡ rounded bits (value_at R (c ∷ cs) k)
      other h rest =
          ap (λ z. z +ℤ sum_over number_if cs) (passed_over c (at_key c.0 ∙ h)) ∙ +ℤ_idl
          (sum_over number_if cs) ∙ rest
          ∙ ap (λ b. rounded bits (unwrap_or (cond b (Some c.1) (lookup (is_at (R k)) cs)) none))
          (sym h)

      by_order : (r : Ordering) → R k c.0 ≡ r → sum_over number_if cs ≡ rounded bits
          (value_at R cs k) → sum_over number_if (c ∷ cs) ≡ rounded bits (value_at R (c ∷ cs) k)
      by_order Less h rest = other (ap is_eq h) rest
      by_order Greater h rest = other (ap is_eq h) rest
      by_order Equal h later =
          let same : k ≡ c.0 = order.exact k c.0 h in
          let rest : sum_over number_if cs ≡ pos 0 = none_there cs
          (rw same (sorted_head R c.0 (keys_of cs) s)) in
          ap (λ z. number_if c +ℤ z) rest ∙ +ℤ_idr (number_if c) ∙ ap
          (λ b. if b then rounded bits c.1 else pos 0) (at_key c.0 ∙ ap is_eq h)
          ∙ ap (λ b. rounded bits (unwrap_or (cond b (Some c.1) (lookup (is_at (R k)) cs)) none))
          (sym (ap is_eq h))

-- ---- entries and products

nat_key : (v q : ℕ) → (q == v) ≡ is_eq (nat_cmp v q)
nat_key v q = by_order (nat_cmp v q) refl
  where
    by_order : (r : Ordering) → nat_cmp v q ≡ r → (q == v) ≡ is_eq r
    by_order Less h = let less : v < q = ranked v q Less (sym h) in eqb-no q v (λ same. omega arith)
    by_order Equal h = let same : v ≡ q = ranked v q Equal (sym h) in eqb-yes q v (sym same)
    by_order Greater h = let more : q < v = ranked v q Greater (sym h) in eqb-no q v
        (λ same. omega arith)

pair_key : (s d : ℕ) (q : ℕ × ℕ) → (q.0 == s && q.1 == d) ≡ is_eq (pair_cmp (s, d) q)
pair_key s d q = ap (λ b. b && q.1 == d) (nat_key s q.0) ∙ by_order (nat_cmp s q.0)
  where
    by_order : (r : Ordering) → (is_eq r && q.1 == d) ≡ is_eq (ordering_then r (nat_cmp d q.1))
    by_order Less = refl
    by_order Equal = nat_key d q.1
    by_order Greater = refl

-- the coefficient of a variable
pub coefficient_of_entry : (p : ℕ) (es : List ExactEntry) (v : ℕ) → IsStrictlySortedBy nat_cmp
    (keys_of (map named es)) → coefficient_of (rounded_entries p es) v ≡ rounded p
    (value_at nat_cmp (map named es) v)
unfolding number_if
coefficient_of_entry p es v sorted =
    kept_sum (entry_of p) (λ e. e.coef) (λ (e : Entry). if e.var == v then e.coef else pos 0)
    (λ e z. by_test (e.var == v) e.coef z) es
    ∙ sum_over_map named (λ c. if c.0 == v then rounded p c.1 else pos 0) es
    ∙ at_value nat_cmp nat_order p v (λ q. q == v) (nat_key v) (map named es) sorted
  where
    by_test : (b : Bool) (z : ℤ) → z ≡ pos 0 → (if b then z else pos 0) ≡ pos 0
    by_test true z h = h
    by_test false z h = refl

-- the coefficient of a state times a discrete variable
pub products_coefficient : (p : ℕ) (es : List ExactProduct) (s d : ℕ) → IsStrictlySortedBy pair_cmp
    (keys_of (map paired es)) → product_coefficient (rounded_products p es) s d ≡ rounded p
    (value_at pair_cmp (map paired es) (s, d))
unfolding number_if
products_coefficient p es s d sorted =
    kept_sum (product_of p) (λ e. e.coef) (λ (e : Product). if e.state == s && e.discrete == d then
    e.coef else pos 0) (λ e z. by_test (e.state == s && e.discrete == d) e.coef z) es
    ∙ sum_over_map paired (λ c. if c.0.0 == s && c.0.1 == d then rounded p c.1 else pos 0) es
    ∙ at_value pair_cmp pair_order p (s, d) (λ q. q.0 == s && q.1 == d) (pair_key s d)
    (map paired es) sorted
  where
    by_test : (b : Bool) (z : ℤ) → z ≡ pos 0 → (if b then z else pos 0) ≡ pos 0
    by_test true z h = h
    by_test false z h = refl
