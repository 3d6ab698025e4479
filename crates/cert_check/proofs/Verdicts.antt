-- A certificate has one verdict.
use Rattle.cert_check.proofs.Common
use Common.{[], ℕ, ℤ, ◌+◌, ◌<◌, ◌∙◌, ◌∷◌, ◌≡◌, ◌≤◌, ◌⊎◌, Accepted, AllPass, ap, arith, Bool}
use Common.{cases_lt, CertificateData, fails_by, false, Fault, fault_of, inequalities, Inequality}
use Common.{inl, inr, IsFaultOf, IsFirstFault, IsFirstFaultOf, IsMet, IsPlaceInRange, IsSome}
use Common.{left_of, List, None, number_of, Option, places_of, Range, refl, Rejected, Relation}
use Common.{relation_of, right_of, Some, start_of, subst, suc, sym, System, true, Verdict, zero}
use Rattle.cert_check.specs.CheckVerdicts.{VerdictsAreOne}
use Rattle.cert_check.specs.declared.inequality_checker.Verdict.TheVariants.{Rejected as VRejected}
use Rattle.cert_check.specs.declared.inequality_checker.Verdict.TheVariants.{Range as VRange}
use Rattle.cert_check.proofs.Decided.{IsDecided, place-decided}
use Rattle.cert_check.proofs.Places.{fails-not, passes-met}

-- ---- the places of an inequality

module _ (number start : ℕ) (InRange : ℕ → Type 0) (relation : Relation) (left right : ℕ → ℤ) where
  -- one more place without a fault
  one-more : (n : ℕ) → AllPass n InRange relation left right → InRange n × IsMet relation (left n) (right n) → AllPass (suc n) InRange relation left right
  one-more n before here k h = by (cases_lt k n)
    where
      by : (k < n) ⊎ (n ≤ k) → InRange k × IsMet relation (left k) (right k)
      by (inl under) = before k under
      by (inr over) = let same : n ≡ k = omega arith in let P : ℕ → Type 0 = λ j. InRange j × IsMet relation (left j) (right j) in subst P same here

  -- a fault of fewer places is one of more
  wider : (n : ℕ) (f : Fault) → IsFirstFault number start n InRange relation left right (Some f) → IsFirstFault number start (suc n) InRange relation left right (Some f)
  wider n (Range a b) h = (h.0, omega (arith, h.1), h.2, h.3, h.4, h.5)
  wider n (Rejected a b l r) h = (h.0, omega (arith, h.1), h.2, h.3, h.4, h.5, h.6, h.7, h.8)

  first-fault : (n : ℕ) → ((k : ℕ) → IsDecided (InRange k)) → (f : Option Fault) × IsFirstFault number start n InRange relation left right f
  first-fault zero d = (None, λ k h. absurd (omega arith))
  first-fault (suc n) d = by (first-fault n d)
    where
      met : AllPass n InRange relation left right → InRange n → (t : Bool) → fails_by relation (left n) (right n) ≡ t → (f : Option Fault) × IsFirstFault number start (suc n) InRange relation left right f
      met before fits false e = (None, one-more n before (fits, passes-met relation (left n) (right n) e))
      met before fits true e = (Some (Rejected number (start + n + 1) (left n) (right n)), (n, omega arith, refl, refl, before, fits, refl, refl, fails-not relation (left n) (right n) e))

      here : AllPass n InRange relation left right → IsDecided (InRange n) → (f : Option Fault) × IsFirstFault number start (suc n) InRange relation left right f
      here before (inl fits) = met before fits (fails_by relation (left n) (right n)) refl
      here before (inr not) = (Some (Range number (start + n + 1)), (n, omega arith, refl, refl, before, not))

      by : (f : Option Fault) × IsFirstFault number start n InRange relation left right f → (f : Option Fault) × IsFirstFault number start (suc n) InRange relation left right f
      by (Some f, h) = (Some f, wider n f h)
      by (None, h) = here h (d n)

  -- a place does not fail if it is before the first fault
  abbrev Fails : ℕ → Type 0
  Fails k = InRange k × IsMet relation (left k) (right k) → ⊥

  range-fails : (n a b : ℕ) (h : IsFirstFault number start n InRange relation left right (Some (Range a b))) → Fails h.0
  range-fails n a b h pass = h.5 pass.0

  rejected-fails : (n a b : ℕ) (l r : ℤ) (h : IsFirstFault number start n InRange relation left right (Some (Rejected a b l r))) → Fails h.0
  rejected-fails n a b l r h pass = h.8 (subst (λ (z : ℤ). IsMet relation z r) (sym h.6) (subst (λ (z : ℤ). IsMet relation (left h.0) z) (sym h.7) pass.1))

  -- two places that fail first are one
  one-place : (k j : ℕ) → AllPass k InRange relation left right → AllPass j InRange relation left right → Fails k → Fails j → k ≡ j
  one-place k j before before' fails fails' = by (cases_lt k j) (cases_lt j k)
    where
      by : (k < j) ⊎ (j ≤ k) → (j < k) ⊎ (k ≤ j) → k ≡ j
      by (inl under) h = absurd (fails (before' k under))
      by (inr over) (inl under) = absurd (fails' (before j under))
      by (inr over) (inr same) = omega arith

  one-fault : (n : ℕ) (f g : Option Fault) → IsFirstFault number start n InRange relation left right f → IsFirstFault number start n InRange relation left right g → f ≡ g
  one-fault n None None p q = refl
  one-fault n None (Some (Range a b)) p q = absurd (range-fails n a b q (p q.0 q.1))
  one-fault n None (Some (Rejected a b l r)) p q = absurd (rejected-fails n a b l r q (p q.0 q.1))
  one-fault n (Some (Range a b)) None p q = absurd (range-fails n a b p (q p.0 p.1))
  one-fault n (Some (Rejected a b l r)) None p q = absurd (rejected-fails n a b l r p (q p.0 p.1))
  one-fault n (Some (Range a b)) (Some (Range c d)) p q =
      let same = one-place p.0 q.0 p.4 q.4 (range-fails n a b p) (range-fails n c d q) in
      let number-is : a ≡ c = p.2 ∙ sym q.2 in
      let place-is : b ≡ d = p.3 ∙ ap (λ k. start + k + 1) same ∙ sym q.3 in
      cc
  one-fault n (Some (Range a b)) (Some (Rejected c d l r)) p q =
      let same = one-place p.0 q.0 p.4 q.4 (range-fails n a b p) (rejected-fails n c d l r q) in
      absurd (p.5 (subst InRange (sym same) q.5))
  one-fault n (Some (Rejected a b l r)) (Some (Range c d)) p q =
      let same = one-place p.0 q.0 p.4 q.4 (rejected-fails n a b l r p) (range-fails n c d q) in
      absurd (q.5 (subst InRange same p.5))
  one-fault n (Some (Rejected a b l r)) (Some (Rejected c d s t)) p q =
      let same = one-place p.0 q.0 p.4 q.4 (rejected-fails n a b l r p) (rejected-fails n c d s t q) in
      let number-is : a ≡ c = p.2 ∙ sym q.2 in
      let place-is : b ≡ d = p.3 ∙ ap (λ k. start + k + 1) same ∙ sym q.3 in
      let left-is : l ≡ s = p.6 ∙ ap left same ∙ sym q.6 in
      let right-is : r ≡ t = p.7 ∙ ap right same ∙ sym q.7 in
      cc

-- ---- all inequalities

module _ (m : System) (x : CertificateData) where
  fault-in : (i : Inequality) → (f : Option Fault) × IsFaultOf m x i f
  fault-in i = first-fault (number_of i) (start_of m.n i) (IsPlaceInRange m x i) (relation_of i) (left_of m x i) (right_of m x i) (places_of m.n i) (place-decided m x i)

  same-fault : (i : Inequality) (f g : Option Fault) → IsFaultOf m x i f → IsFaultOf m x i g → f ≡ g
  same-fault i f g p q = one-fault (number_of i) (start_of m.n i) (IsPlaceInRange m x i) (relation_of i) (left_of m x i) (right_of m x i) (places_of m.n i) f g p q

  faults-in : (is : List Inequality) → (f : Option Fault) × IsFirstFaultOf m x is f
  faults-in [] = (None, refl)
  faults-in (i ∷ rest) = by (fault-in i) (faults-in rest)
    where
      by : (f : Option Fault) × IsFaultOf m x i f → (f : Option Fault) × IsFirstFaultOf m x rest f → (f : Option Fault) × IsFirstFaultOf m x (i ∷ rest) f
      by (Some f, h) later = (Some f, inr (refl, h))
      by (None, h) later = (later.0, inl (h, later.1))

  same-faults : (is : List Inequality) (f g : Option Fault) → IsFirstFaultOf m x is f → IsFirstFaultOf m x is g → f ≡ g
  same-faults [] f g p q = p ∙ sym q
  same-faults (i ∷ rest) f g (inl p) (inl q) = same-faults rest f g p.1 q.1
  same-faults (i ∷ rest) f g (inr p) (inr q) = same-fault i f g p.1 q.1
  same-faults (i ∷ rest) f g (inl p) (inr q) = absurd (let none = same-fault i None g p.0 q.1 in let some = q.0 in let P : Option Fault → Type 0 = λ o. IsSome o in let wrong = subst P (sym none) some in cc)
  same-faults (i ∷ rest) f g (inr p) (inl q) = absurd (let none = same-fault i None f q.0 p.1 in let some = p.0 in let P : Option Fault → Type 0 = λ o. IsSome o in let wrong = subst P (sym none) some in cc)

verdict_by : Option Fault → Verdict
verdict_by None = Accepted
verdict_by (Some (Rejected number place left right)) = VRejected number place left right
verdict_by (Some (Range number place)) = VRange number place

told-by : (f : Option Fault) → fault_of (verdict_by f) ≡ f
unfolding verdict_by
told-by None = refl
told-by (Some (Rejected number place left right)) = refl
told-by (Some (Range number place)) = refl

one-verdict : (v w : Verdict) → fault_of v ≡ fault_of w → v ≡ w
one-verdict Accepted Accepted e = refl
one-verdict Accepted (VRejected a b l r) e = absurd (cc)
one-verdict Accepted (VRange a b) e = absurd (cc)
one-verdict (VRejected a b l r) Accepted e = absurd (cc)
one-verdict (VRejected a b l r) (VRejected c d s t) e = cc
one-verdict (VRejected a b l r) (VRange c d) e = absurd (cc)
one-verdict (VRange a b) Accepted e = absurd (cc)
one-verdict (VRange a b) (VRejected c d s t) e = absurd (cc)
one-verdict (VRange a b) (VRange c d) e = cc

pub verdicts : VerdictsAreOne
verdicts = record {
  some = λ m x. let f = faults-in m x inequalities in (verdict_by f.0, subst (λ (o : Option Fault). IsFirstFaultOf m x inequalities o) (sym (told-by f.0)) f.1);
  one = λ m x v w p q. one-verdict v w (same-faults m x inequalities (fault_of v) (fault_of w) p q);
}
