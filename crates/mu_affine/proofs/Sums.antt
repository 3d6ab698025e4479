-- A form that joins a running sum.
use Rattle.mu_affine.proofs.Common
use Common.{[], ℕ, ◌*ℤ◌, ◌<◌, ◌∙◌, ◌∷◌, ◌≡◌, AllByRecursion, ap, AreFinished, AreReduced, arith}
use Common.{Bool, cases_Bool, checked, combined, cond, Err, ExactForm, false, form_meaning}
use Common.{Fraction, inl, inr, ints, is_at, is_nonzero, IsCoefficient, IsPair, IsReduced}
use Common.{IsReducedSum, joined, JoinsAll, List, lookup, lowest, map, MayStand, named, nat_cmp}
use Common.{none, NumErr, Ok, Ordering, pair_cmp, paired, pos, refl, RunningForm, slice_get, Some}
use Common.{SomeFails, subst, suc, sum_meaning, sym, true, unwrap_or, value_at, zero, zero-*ℤ}
use Rattle.mu_affine.specs.FinishedForms.{IsCanonical, JoinsForm}
use Rattle.mu_affine.proofs.Fractions.{positive_product, IsReduced-checked, IsReduced-none, passed}
use Rattle.mu_affine.proofs.Fractions.{lowest-zero, zero_num}
use Rattle.mu_affine.proofs.RowForms.{IsKeyOrder, nat_order, pair_order, found}
use Rattle.mu_affine.proofs.Checks.{PassesAs, checked_form-passes, name_fails, pair_fails}
use Rattle.mu_affine.proofs.Checks.{time_fails, constant_fails}

-- the denominator of a joined fraction
positive_joined : (minus : Bool) (a b : Fraction) → IsReduced a → IsReduced b → 0 < (joined minus a b).den
positive_joined false a b h k = positive_product a.den b.den h.positive k.positive
positive_joined true a b h k = positive_product a.den b.den h.positive k.positive

-- what holds of all entries holds at a place
pub each_at : {A : Type 0} (P : A → Type 0) (xs : List A) (i : ℕ) (c : A) → AllByRecursion P xs → slice_get xs i ≡ Some c → P c
each_at P [] i c h e = absurd (cc)
each_at P (x ∷ xs) zero c h e = let same : x ≡ c = cc in subst P same h.0
each_at P (x ∷ xs) (suc i) c h e = each_at P xs i c h.1 e

-- the coefficients of a finished list are in lowest terms
pub AreReduced-finished : {K : Type 0} (R : K → K → Ordering) (cs : List (K × Fraction)) → AllByRecursion (λ c. IsCoefficient c.1) cs → AreReduced R cs
AreReduced-finished R [] h k = IsReduced-none
AreReduced-finished R (c ∷ cs) h k =
    elim (is_at (R k) c.0) as (λ b. IsReduced (unwrap_or (cond b (Some c.1) (lookup (is_at (R k)) cs)) none)) [
      | true ↦ h.0.1
      | false ↦ AreReduced-finished R cs h.1 k
    ]

-- two zeros join to zero
zeros_join : (minus : Bool) (a b r : Fraction) → IsReduced a → IsReduced b → is_nonzero a ≡ false → is_nonzero b ≡ false → checked (joined minus a b) ≡ Ok r → is_nonzero r ≡ false
zeros_join minus a b r ra rb za zb h =
    let top : (joined minus a b).num ≡ pos 0 = joined_num minus a b (zero_num a za) (zero_num b zb) in
    let low : lowest (joined minus a b) ≡ none = lowest-zero (joined minus a b) top (positive_joined minus a b ra rb) in
    let is : r ≡ none = sym (passed (joined minus a b) r h).is ∙ low in
    rw is refl
  where
    joined_num : (minus : Bool) (a b : Fraction) → a.num ≡ pos 0 → b.num ≡ pos 0 → (joined minus a b).num ≡ pos 0
    joined_num false a b x y = omega (arith, ints, ap (λ n. n *ℤ pos b.den) x, ap (λ n. n *ℤ pos a.den) y, zero-*ℤ (pos b.den), zero-*ℤ (pos a.den))
    joined_num true a b x y = omega (arith, ints, ap (λ n. n *ℤ pos b.den) x, ap (λ n. n *ℤ pos a.den) y, zero-*ℤ (pos b.den), zero-*ℤ (pos a.den))

-- what joins to a number other than 0 is not 0 on both sides
one_of_two : (minus : Bool) (a b r : Fraction) (P : Type 0) → IsReduced a → IsReduced b → checked (joined minus a b) ≡ Ok r → (is_nonzero a ≡ true → P) → (is_nonzero b ≡ true → P) → is_nonzero r ≡ true → P
one_of_two minus a b r P ra rb h left right n =
    elim (cases_Bool (is_nonzero a)) [
      | inl a_is ↦ left a_is
      | inr a_not ↦ elim (cases_Bool (is_nonzero b)) [
        | inl b_is ↦ right b_is
        | inr b_not ↦ let z : is_nonzero r ≡ false = zeros_join minus a b r ra rb a_not b_not h in absurd (cc)
      ]
    ]

-- a form was joined
pub form_joined : (minus : Bool) (old new : RunningForm) (f : ExactForm) → IsCanonical f → IsReducedSum old
    → JoinsAll nat_cmp minus old.names.entries new.names.entries (map named f.entries)
    → JoinsAll pair_cmp minus old.pairs.entries new.pairs.entries (map paired f.products)
    → checked (joined minus old.time f.time) ≡ Ok new.time → checked (joined minus old.constant f.constant) ≡ Ok new.constant
    → JoinsForm minus old new f (Ok tt)
form_joined minus old new f canonical reduced names pairs time constant =
    let f_names : AreReduced nat_cmp (map named f.entries) = AreReduced-finished nat_cmp (map named f.entries) canonical.names.each in
    let f_pairs : AreReduced pair_cmp (map paired f.products) = AreReduced-finished pair_cmp (map paired f.products) canonical.pairs.each in
    let passes : PassesAs (combined (joined minus) (sum_meaning old) (form_meaning f)) (sum_meaning new) =
    record { names = names; pairs = λ s d. pairs (s, d); time = time; constant = constant } in (
      record {
        names = λ k. IsReduced-checked _ _ (positive_joined minus _ _ (reduced.names k) (f_names k)) (names k);
        pairs = λ k. IsReduced-checked _ _ (positive_joined minus _ _ (reduced.pairs k) (f_pairs k)) (pairs k);
        time = IsReduced-checked _ _ (positive_joined minus _ _ reduced.time canonical.time) time;
      },
      λ n. checked_form-passes n _ _ passes,
      λ p over_old over_f. record {
        names = λ v. one_of_two minus _ _ _ (MayStand p v) (reduced.names v) (f_names v) (names v) (over_old.names v) (over_f.names v);
        pairs = λ s d. one_of_two minus _ _ _ (IsPair p.sizes s d × (p.in_equation ≡ true)) (reduced.pairs (s, d)) (f_pairs (s, d)) (pairs (s, d)) (over_old.pairs s d) (over_f.pairs s d);
      },
    )

-- the coefficient of an entry of a finished list is not 0
pub nonzero_at : {K : Type 0} (R : K → K → Ordering) → IsKeyOrder R → (cs : List (K × Fraction)) (i : ℕ) (c : K × Fraction) → AreFinished R cs → slice_get cs i ≡ Some c → is_nonzero (value_at R cs c.0) ≡ true
nonzero_at R o cs i c h e = rw (found R o cs i c h.rising e) (each_at (λ x. IsCoefficient x.1) cs i c h.each e).0

-- a name could not be joined
pub form_failed_names : (minus : Bool) (old new : RunningForm) (f : ExactForm) (fault : NumErr) → IsCanonical f
    → SomeFails nat_cmp minus old.names.entries (map named f.entries) fault → JoinsForm minus old new f (Err fault)
form_failed_names minus old new f fault canonical fails p over =
    name_fails p.sizes _ fails.1.0 fault (over.names fails.1.0 (nonzero_at nat_cmp nat_order (map named f.entries) fails.0 fails.1 canonical.names fails.2)).0 fails.3

-- a pair could not be joined
pub form_failed_pairs : (minus : Bool) (old new : RunningForm) (f : ExactForm) (fault : NumErr) → IsCanonical f
    → SomeFails pair_cmp minus old.pairs.entries (map paired f.products) fault → JoinsForm minus old new f (Err fault)
form_failed_pairs minus old new f fault canonical fails p over =
    pair_fails p.sizes _ fails.1.0.0 fails.1.0.1 fault (over.pairs fails.1.0.0 fails.1.0.1 (nonzero_at pair_cmp pair_order (map paired f.products) fails.0 fails.1 canonical.pairs fails.2)).0 fails.3

-- the time or the constant could not be joined
pub form_failed_time : (minus : Bool) (old new : RunningForm) (f : ExactForm) (fault : NumErr) → checked (joined minus old.time f.time) ≡ Err fault → JoinsForm minus old new f (Err fault)
form_failed_time minus old new f fault h p over = time_fails p.sizes _ fault h

pub form_failed_constant : (minus : Bool) (old new : RunningForm) (f : ExactForm) (fault : NumErr) → checked (joined minus old.constant f.constant) ≡ Err fault → JoinsForm minus old new f (Err fault)
form_failed_constant minus old new f fault h p over = constant_fails p.sizes _ fault h
