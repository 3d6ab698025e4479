-- Forms that are multiplied or divided by a number other than 0.
use Rattle.mu_affine.proofs.Common
use Common.{[], ℕ, ℤ, ◌*ℤ◌, ◌++◌, ◌+◌, ◌<◌, ◌∙◌, ◌∷◌, ◌≡◌, AllByRecursion, ap, AreFinished}
use Common.{AreReduced, arith, Bool, cases_Bool, checked, cond, Err, ExactForm, false, form_meaning}
use Common.{Fraction, get_or, inl, inr, is_at, is_nonzero, IsCoefficient, IsFinished, IsPair}
use Common.{IsStrictlySortedBy, keys_of, length, List, lookup, lowest, map, map-append, MayStand}
use Common.{named, nat_cmp, negsuc, none, NumErr, Ok, Ordering, pair_cmp, paired, Place, pos, refl}
use Common.{scaled_form, Scales, Some, subst, sym, take, true, unsigned_abs-mul, unwrap_or}
use Common.{value_at, zero-*ℤ}
use Rattle.std.specs.Prelude.{unsigned_abs}
use Rattle.std.proofs.lemmas.List.Elements.{AllZip-push}
use Rattle.mu_num.specs.Fraction.{sign}
use Rattle.mu_affine.specs.Scaling.{scaled, ScaleFails, IsCheckedAnswer}
use Rattle.mu_affine.proofs.Fractions.{positive_product, IsReduced-checked, passed, lowest-zero}
use Rattle.mu_affine.proofs.Fractions.{zero_num, nonzero_size, nonzero_from_size, nonzero-lowest}
use Rattle.mu_affine.proofs.Fractions.{checked_same, checked-reduced, IsReduced-none}
use Rattle.mu_affine.proofs.RowForms.{nat_order, pair_order, found, entry_at, entries_more}
use Rattle.mu_affine.proofs.Checks.{PassesAs, checked_form-passes, name_fails, pair_fails}
use Rattle.mu_affine.proofs.Sums.{AreReduced-finished, nonzero_at}

-- one more entry was scaled
pub Scales-more : {E K : Type 0} (f : E → K × Fraction) (divide : Bool) (by : Fraction) (es new : List E) (i : ℕ) (e d : E) → i < length es → e ≡ get_or es i e
    → Scales divide by (map f (take i es)) (map f new) → (f d).0 ≡ (f e).0 → checked (scaled divide (f e).1 by) ≡ Ok (f d).1 → Scales divide by (map f (take (i + 1) es)) (map f (new ++ d ∷ []))
Scales-more {E} {K} f divide by es new i e d h is scales key value =
    rw (entries_more f es i e h is, map-append f new (d ∷ []))
    (AllZip-push (λ (c x : K × Fraction). (x.0 ≡ c.0) × (checked (scaled divide c.1 by) ≡ Ok x.1)) (map f (take i es)) (map f new) (f e) (f d) scales (key, value))

-- an entry could not be scaled
pub entry_unscaled : {E K : Type 0} (f : E → K × Fraction) (divide : Bool) (by : Fraction) (es : List E) (i : ℕ) (e : E) (fault : NumErr) → i < length es → e ≡ get_or es i e
    → checked (scaled divide (f e).1 by) ≡ Err fault → ScaleFails divide by (map f es) fault
entry_unscaled f divide by es i e fault h is err = (i, (f e), entry_at f es i e h is, err)

-- the size of a sign
sign_size : (z : ℤ) → unsigned_abs (sign z) ≡ 1
sign_size (pos n) = refl
sign_size (negsuc n) = refl

-- a denominator
positive_scaled : (divide : Bool) (a by : Fraction) → 0 < a.den → 0 < by.den → is_nonzero by ≡ true → 0 < (scaled divide a by).den
positive_scaled false a by h k n = positive_product a.den by.den h k
positive_scaled true a by h k n = positive_product a.den (unsigned_abs by.num) h (nonzero_size by n)

-- a number of value 0
scaled-zero : (divide : Bool) (z by : Fraction) → z.num ≡ pos 0 → (scaled divide z by).num ≡ pos 0
scaled-zero false z by h = ap (λ n. n *ℤ by.num) h ∙ zero-*ℤ by.num
scaled-zero true z by h = ap (λ n. (n *ℤ pos by.den) *ℤ sign by.num) h ∙ ap (λ n. n *ℤ sign by.num) (zero-*ℤ (pos by.den)) ∙ zero-*ℤ (sign by.num)

-- a number of another value
scaled_size : (divide : Bool) (a by : Fraction) → 0 < by.den → is_nonzero by ≡ true → is_nonzero a ≡ true → 0 < unsigned_abs (scaled divide a by).num
scaled_size false a by k n h = rw (unsigned_abs-mul a.num by.num) (positive_product _ _ (nonzero_size a h) (nonzero_size by n))
scaled_size true a by k n h =
    rw (unsigned_abs-mul (a.num *ℤ pos by.den) (sign by.num), sign_size by.num, unsigned_abs-mul a.num (pos by.den))
    (positive_product _ _ (positive_product _ _ (nonzero_size a h) k) (omega arith))

-- what 0 is scaled to
checked-scaled_zero : (divide : Bool) (z by r : Fraction) → 0 < z.den → 0 < by.den → is_nonzero by ≡ true → z.num ≡ pos 0 → checked (scaled divide z by) ≡ Ok r → r ≡ none
checked-scaled_zero divide z by r zpos rb n zero h =
    sym (passed (scaled divide z by) r h).is ∙ lowest-zero (scaled divide z by) (scaled-zero divide z by zero) (positive_scaled divide z by zpos rb n)

checked-scaled_none : (divide : Bool) (by : Fraction) → 0 < by.den → is_nonzero by ≡ true → checked (scaled divide none by) ≡ Ok none
checked-scaled_none divide by rb n =
    checked_same (scaled divide none by) none (lowest-zero (scaled divide none by) (scaled-zero divide none by refl) (positive_scaled divide none by (omega arith) rb n) ∙ sym (lowest-zero none refl (omega arith)))
    ∙ checked-reduced none IsReduced-none

-- what other coefficients are scaled to
scaled_coefficient : (divide : Bool) (a by r : Fraction) → 0 < by.den → is_nonzero by ≡ true → IsCoefficient a → checked (scaled divide a by) ≡ Ok r → IsCoefficient r
scaled_coefficient divide a by r rb n h e =
    let den : 0 < (scaled divide a by).den = positive_scaled divide a by h.1.positive rb n in
    let size : 0 < unsigned_abs (lowest (scaled divide a by)).num = nonzero-lowest (scaled divide a by) den (scaled_size divide a by rb n h.0) in
    (nonzero_from_size r (subst (λ x. 0 < unsigned_abs x.num) (passed (scaled divide a by) r e).is size), IsReduced-checked (scaled divide a by) r den e)

-- a scaled list has the same keys
keys-Scales : {K : Type 0} (divide : Bool) (by : Fraction) (cs ds : List (K × Fraction)) → Scales divide by cs ds → keys_of ds ≡ keys_of cs
keys-Scales divide by [] [] h = refl
keys-Scales divide by [] (d ∷ ds) h = absurd h
keys-Scales divide by (c ∷ cs) [] h = absurd h
keys-Scales divide by (c ∷ cs) (d ∷ ds) h =
    let rest = keys-Scales divide by cs ds h.1 in
    λ i. h.0.0 i ∷ rest i

each-Scales : {K : Type 0} (divide : Bool) (by : Fraction) (cs ds : List (K × Fraction)) → 0 < by.den → is_nonzero by ≡ true → Scales divide by cs ds
    → AllByRecursion (λ c. IsCoefficient c.1) cs → AllByRecursion (λ c. IsCoefficient c.1) ds
each-Scales divide by [] [] rb n h each = tt
each-Scales divide by [] (d ∷ ds) rb n h each = absurd h
each-Scales divide by (c ∷ cs) [] rb n h each = absurd h
each-Scales divide by (c ∷ cs) (d ∷ ds) rb n h each = (scaled_coefficient divide c.1 by d.1 rb n each.0 h.0.1, each-Scales divide by cs ds rb n h.1 each.1)

-- and is finished where the first one is
pub AreFinished-Scales : {K : Type 0} (R : K → K → Ordering) (divide : Bool) (by : Fraction) (cs ds : List (K × Fraction)) → 0 < by.den → is_nonzero by ≡ true → Scales divide by cs ds → AreFinished R cs → AreFinished R ds
AreFinished-Scales R divide by cs ds rb n h f = record {
  rising = subst (IsStrictlySortedBy R) (sym (keys-Scales divide by cs ds h)) f.rising;
  each = each-Scales divide by cs ds rb n h f.each;
}

-- the coefficient under each key is scaled
pub value_at-Scales : {K : Type 0} (R : K → K → Ordering) (divide : Bool) (by : Fraction) (cs ds : List (K × Fraction)) (k : K) → 0 < by.den → is_nonzero by ≡ true → Scales divide by cs ds
    → checked (scaled divide (value_at R cs k) by) ≡ Ok (value_at R ds k)
value_at-Scales R divide by [] [] k rb n h = checked-scaled_none divide by rb n
value_at-Scales R divide by [] (d ∷ ds) k rb n h = absurd h
value_at-Scales R divide by (c ∷ cs) [] k rb n h = absurd h
value_at-Scales R divide by (c ∷ cs) (d ∷ ds) k rb n h =
    rw h.0.0
    (elim (is_at (R k) c.0) as (λ b. checked (scaled divide (unwrap_or (cond b (Some c.1) (lookup (is_at (R k)) cs)) none) by) ≡ Ok (unwrap_or (cond b (Some d.1) (lookup (is_at (R k)) ds)) none)) [
      | true ↦ h.0.1
      | false ↦ value_at-Scales R divide by cs ds k rb n h.1
    ])

-- a number other than 0 is scaled from one
nonzero_from : (divide : Bool) (a by r : Fraction) (P : Type 0) → 0 < a.den → 0 < by.den → is_nonzero by ≡ true → checked (scaled divide a by) ≡ Ok r → (is_nonzero a ≡ true → P) → is_nonzero r ≡ true → P
nonzero_from divide a by r P apos rb n h from nr =
    elim (cases_Bool (is_nonzero a)) [
      | inl is ↦ from is
      | inr not ↦ let z : r ≡ none = checked-scaled_zero divide a by r apos rb n (zero_num a not) h in absurd (let t : is_nonzero none ≡ true = subst (λ x. is_nonzero x ≡ true) z nr in cc)
    ]

-- a form was scaled
pub form_scaled : (p : Place) (divide : Bool) (by : Fraction) (f g : ExactForm) → 0 < by.den → is_nonzero by ≡ true → IsFinished p f
    → Scales divide by (map named f.entries) (map named g.entries) → Scales divide by (map paired f.products) (map paired g.products)
    → checked (scaled divide f.time by) ≡ Ok g.time → checked (scaled divide f.constant by) ≡ Ok g.constant → IsCheckedAnswer p (scaled_form divide (form_meaning f) by) (Ok g)
form_scaled p divide by f g rb n finished names pairs time constant =
    let canonical = finished.canonical in
    let name : (v : ℕ) → checked (scaled divide ((form_meaning f).coefficient v) by) ≡ Ok ((form_meaning g).coefficient v) = λ v. value_at-Scales nat_cmp divide by _ _ v rb n names in
    let pair : (s d : ℕ) → checked (scaled divide ((form_meaning f).paired s d) by) ≡ Ok ((form_meaning g).paired s d) = λ s d. value_at-Scales pair_cmp divide by _ _ (s, d) rb n pairs in
    let passes : PassesAs (scaled_form divide (form_meaning f) by) (form_meaning g) = record { names = name; pairs = pair; time = time; constant = constant } in
    let f_names : AreReduced nat_cmp (map named f.entries) = AreReduced-finished nat_cmp (map named f.entries) canonical.names.each in
    let f_pairs : AreReduced pair_cmp (map paired f.products) = AreReduced-finished pair_cmp (map paired f.products) canonical.pairs.each in (
      checked_form-passes p.sizes _ _ passes,
      record {
        canonical = record {
          names = AreFinished-Scales nat_cmp divide by _ _ rb n names canonical.names;
          pairs = AreFinished-Scales pair_cmp divide by _ _ rb n pairs canonical.pairs;
          time = IsReduced-checked _ _ (positive_scaled divide f.time by canonical.time.positive rb n) time;
        };
        over = record {
          names = λ v. nonzero_from divide _ by _ (MayStand p v) (f_names v).positive rb n (name v) (finished.over.names v);
          pairs = λ s d. nonzero_from divide _ by _ (IsPair p.sizes s d × (p.in_equation ≡ true)) (f_pairs (s, d)).positive rb n (pair s d) (finished.over.pairs s d);
        };
      },
    )

-- the coefficient of a name could not be scaled
pub form_unscaled_names : (p : Place) (divide : Bool) (by : Fraction) (f : ExactForm) (fault : NumErr) → IsFinished p f → ScaleFails divide by (map named f.entries) fault → IsCheckedAnswer p (scaled_form divide (form_meaning f) by) (Err fault)
form_unscaled_names p divide by f fault finished fails =
    let names = finished.canonical.names in
    let is : value_at nat_cmp (map named f.entries) fails.1.0 ≡ fails.1.1 = ap (λ r. unwrap_or r none) (found nat_cmp nat_order (map named f.entries) fails.0 fails.1 names.rising fails.2) in
    name_fails p.sizes _ fails.1.0 fault (finished.over.names fails.1.0 (nonzero_at nat_cmp nat_order (map named f.entries) fails.0 fails.1 names fails.2)).0 (rw is fails.3)

-- and that of a pair
pub form_unscaled_pairs : (p : Place) (divide : Bool) (by : Fraction) (f : ExactForm) (fault : NumErr) → IsFinished p f → ScaleFails divide by (map paired f.products) fault → IsCheckedAnswer p (scaled_form divide (form_meaning f) by) (Err fault)
form_unscaled_pairs p divide by f fault finished fails =
    let pairs = finished.canonical.pairs in
    let is : value_at pair_cmp (map paired f.products) fails.1.0 ≡ fails.1.1 = ap (λ r. unwrap_or r none) (found pair_cmp pair_order (map paired f.products) fails.0 fails.1 pairs.rising fails.2) in
    pair_fails p.sizes _ fails.1.0.0 fails.1.0.1 fault (finished.over.pairs fails.1.0.0 fails.1.0.1 (nonzero_at pair_cmp pair_order (map paired f.products) fails.0 fails.1 pairs fails.2)).0 (rw is fails.3)
