-- A certificate is accepted exactly where its inequalities hold and its sums are in range.
use Rattle.cert_check.proofs.Common
use Common.{[], ℕ, ℤ, ◌*ℤ◌, ◌-ℤ◌, ◌<◌, ◌∷◌, ◌≡◌, ◌≤ℤ◌, Accepted, arith, Bool, Bound, BoundParts}
use Common.{CentreGain, CentreSum, CertificateData, Decay, DecayParts, DecayProducts, Distance}
use Common.{false, Fault, fault_of, FirstStart, form, Holds, if◌then◌else◌, inequalities}
use Common.{Inequality, inl, inr, int_eq, ints, is_same_below, IsFaultOf, IsFirstFaultOf, IsMet}
use Common.{IsPlaceInRange, left_of, level_range, List, None, pair_of, PairGain, PairSum, places_of}
use Common.{pos, Quantum, Range, Reach, refl, Rejected, relation_of, right_of, scaled_offset}
use Common.{SecondStart, Share, SignC, SignE, SignH1, SignH2, SignLambda, SignMu, SignP, SignR}
use Common.{SignS, SignSigmaC, SignSigmaR, SignZ, Slope, Some, StartsApart, subst, sym, Symmetric}
use Common.{System, Table, true, Vector, Verdict}
use Rattle.cert_check.specs.declared.inequality_checker.Verdict.TheVariants.{Rejected as VRejected}
use Rattle.cert_check.specs.declared.inequality_checker.Verdict.TheVariants.{Range as VRange}
use Rattle.cert_check.specs.InequalityTable.{AreSumsInRange}
use Rattle.cert_check.proofs.Accepted.{all-fine}
use Rattle.cert_check.proofs.Gaps.{form-same, gap-one}
use Rattle.cert_check.proofs.Pairs.{pair-inside}

-- where no inequality has a fault, all sums are in range
pub accepted-ranges : (m : System) (x : CertificateData) → IsFirstFaultOf m x inequalities None → AreSumsInRange m x
accepted-ranges m x h i k l = at i l
  where
    at : (i : Inequality) → k < places_of m.n i → IsPlaceInRange m x i k
    at SignP l = ((all-fine m x inequalities h).0 k l).0
    at SignMu l = ((all-fine m x inequalities h).1.0 k l).0
    at SignLambda l = ((all-fine m x inequalities h).1.1.0 k l).0
    at SignH1 l = ((all-fine m x inequalities h).1.1.1.0 k l).0
    at SignH2 l = ((all-fine m x inequalities h).1.1.1.1.0 k l).0
    at SignR l = ((all-fine m x inequalities h).1.1.1.1.1.0 k l).0
    at SignZ l = ((all-fine m x inequalities h).1.1.1.1.1.1.0 k l).0
    at SignS l = ((all-fine m x inequalities h).1.1.1.1.1.1.1.0 k l).0
    at SignSigmaR l = ((all-fine m x inequalities h).1.1.1.1.1.1.1.1.0 k l).0
    at SignC l = ((all-fine m x inequalities h).1.1.1.1.1.1.1.1.1.0 k l).0
    at SignSigmaC l = ((all-fine m x inequalities h).1.1.1.1.1.1.1.1.1.1.0 k l).0
    at SignE l = ((all-fine m x inequalities h).1.1.1.1.1.1.1.1.1.1.1.0 k l).0
    at Symmetric l = ((all-fine m x inequalities h).1.1.1.1.1.1.1.1.1.1.1.1.0 k l).0
    at BoundParts l = ((all-fine m x inequalities h).1.1.1.1.1.1.1.1.1.1.1.1.1.0 k l).0
    at Bound l = ((all-fine m x inequalities h).1.1.1.1.1.1.1.1.1.1.1.1.1.1.0 k l).0
    at DecayProducts l = ((all-fine m x inequalities h).1.1.1.1.1.1.1.1.1.1.1.1.1.1.1.0 k l).0
    at DecayParts l = ((all-fine m x inequalities h).1.1.1.1.1.1.1.1.1.1.1.1.1.1.1.1.0 k l).0
    at Decay l = ((all-fine m x inequalities h).1.1.1.1.1.1.1.1.1.1.1.1.1.1.1.1.1.0 k l).0
    at FirstStart l = ((all-fine m x inequalities h).1.1.1.1.1.1.1.1.1.1.1.1.1.1.1.1.1.1.0 k l).0
    at SecondStart l = ((all-fine m x inequalities h).1.1.1.1.1.1.1.1.1.1.1.1.1.1.1.1.1.1.1.0 k l).0
    at StartsApart l = ((all-fine m x inequalities h).1.1.1.1.1.1.1.1.1.1.1.1.1.1.1.1.1.1.1.1.0 k l).0
    at Reach l = ((all-fine m x inequalities h).1.1.1.1.1.1.1.1.1.1.1.1.1.1.1.1.1.1.1.1.1.0 k l).0
    at Slope l = ((all-fine m x inequalities h).1.1.1.1.1.1.1.1.1.1.1.1.1.1.1.1.1.1.1.1.1.1.0 k l).0
    at CentreGain l = ((all-fine m x inequalities h).1.1.1.1.1.1.1.1.1.1.1.1.1.1.1.1.1.1.1.1.1.1.1.0 k l).0
    at CentreSum l = ((all-fine m x inequalities h).1.1.1.1.1.1.1.1.1.1.1.1.1.1.1.1.1.1.1.1.1.1.1.1.0 k l).0
    at PairGain l = ((all-fine m x inequalities h).1.1.1.1.1.1.1.1.1.1.1.1.1.1.1.1.1.1.1.1.1.1.1.1.1.0 k l).0
    at PairSum l = ((all-fine m x inequalities h).1.1.1.1.1.1.1.1.1.1.1.1.1.1.1.1.1.1.1.1.1.1.1.1.1.1.0 k l).0
    at Distance l = ((all-fine m x inequalities h).1.1.1.1.1.1.1.1.1.1.1.1.1.1.1.1.1.1.1.1.1.1.1.1.1.1.1.0 k l).0
    at Quantum l = ((all-fine m x inequalities h).1.1.1.1.1.1.1.1.1.1.1.1.1.1.1.1.1.1.1.1.1.1.1.1.1.1.1.1.0 k l).0
    at Share l = ((all-fine m x inequalities h).1.1.1.1.1.1.1.1.1.1.1.1.1.1.1.1.1.1.1.1.1.1.1.1.1.1.1.1.1.0 k l).0

zero-≤ : pos 0 ≤ℤ pos 0
zero-≤ = omega (arith, ints)

-- a place that takes no sums in one case
apart-met : (n : ℕ) (pm : Table) (first second : Vector) (bound : ℤ) (t : Bool) → form n pm (λ k. first k -ℤ second k) ≤ℤ bound
    → (if t then pos 0 else form n pm (scaled_offset first (pos 1) second)) ≤ℤ (if t then pos 0 else bound)
apart-met n pm first second bound true h = zero-≤
apart-met n pm first second bound false h =
    let z = form-same n pm (scaled_offset first (pos 1) second) (λ k. first k -ℤ second k) (λ k l. gap-one first second k) in
    omega (arith, ints)

share-met : (left right : ℤ) (t : Bool) → right ≤ℤ left → (if t then pos 0 else right) ≤ℤ (if t then pos 0 else left)
share-met left right true h = zero-≤
share-met left right false h = h

-- where all hold and all sums are in range, no place fails
pub holds-pass : (m : System) (x : CertificateData) → Holds m x → (i : Inequality) (k : ℕ) → k < places_of m.n i → IsMet (relation_of i) (left_of m x i k) (right_of m x i k)
holds-pass m x holds SignP k h = holds.signs.p k h
holds-pass m x holds SignMu k h = holds.signs.mu k h
holds-pass m x holds SignLambda k h = holds.signs.lambda
holds-pass m x holds SignH1 k h = holds.signs.h1
holds-pass m x holds SignH2 k h = holds.signs.h2
holds-pass m x holds SignR k h = holds.signs.r
holds-pass m x holds SignZ k h = holds.signs.z k h
holds-pass m x holds SignS k h = holds.signs.s k h
holds-pass m x holds SignSigmaR k h = holds.signs.sigma_r k h
holds-pass m x holds SignC k h = holds.signs.cc
holds-pass m x holds SignSigmaC k h = holds.signs.sigma_c k h
holds-pass m x holds SignE k h = holds.signs.e k h
holds-pass m x holds Symmetric k h = let p = pair-inside m.n k h in holds.symmetric (pair_of m.n k).0 (pair_of m.n k).1 p.0 p.1
holds-pass m x holds BoundParts k h = zero-≤
holds-pass m x holds Bound k h = holds.bounded_below k h
holds-pass m x holds DecayProducts k h = zero-≤
holds-pass m x holds DecayParts k h = zero-≤
holds-pass m x holds Decay k h = holds.decays k h
holds-pass m x holds FirstStart k h = holds.first_start
holds-pass m x holds SecondStart k h = holds.second_start
holds-pass m x holds StartsApart k h = apart-met m.n x.pm x.start1 x.start2 (m.unit *ℤ m.unit *ℤ x.cc) (is_same_below m.n x.start1 x.start2) holds.starts_apart
holds-pass m x holds Reach k h = holds.reach k h
holds-pass m x holds Slope k h = holds.slopes k h
holds-pass m x holds CentreGain k h = holds.centre_gains k h
holds-pass m x holds CentreSum k h = holds.centre_sum
holds-pass m x holds PairGain k h = holds.pair_gains k h
holds-pass m x holds PairSum k h = holds.pair_sum
holds-pass m x holds Distance k h = holds.distances k h
holds-pass m x holds Quantum k h = holds.quanta k h
holds-pass m x holds Share k h = share-met (pos 4096 *ℤ x.q k) (m.share *ℤ level_range x k) (int_eq m.share (pos 0)) (holds.shares k h)

no-fault : (m : System) (x : CertificateData) → Holds m x → AreSumsInRange m x → (i : Inequality) (f : Fault) → IsFaultOf m x i (Some f) → ⊥
no-fault m x holds ranges i (Range number place) fault = fault.5 (ranges i fault.0 fault.1)
no-fault m x holds ranges i (Rejected number place left right) fault =
    let k = fault.0 in
    let h = fault.1 in
    let P : ℤ → Type 0 = λ z. IsMet (relation_of i) z (right_of m x i k) in
    let Q : ℤ → Type 0 = λ z. IsMet (relation_of i) left z in
    fault.8 (subst Q (sym fault.7) (subst P (sym fault.6) (holds-pass m x holds i k h)))

no-first-fault : (m : System) (x : CertificateData) → Holds m x → AreSumsInRange m x → (is : List Inequality) (f : Fault) → IsFirstFaultOf m x is (Some f) → ⊥
no-first-fault m x holds ranges [] f h = cc
no-first-fault m x holds ranges (i ∷ is) f (inl h) = no-first-fault m x holds ranges is f h.1
no-first-fault m x holds ranges (i ∷ is) f (inr h) = no-fault m x holds ranges i f h.1

-- so the verdict accepts
pub accepts : (m : System) (x : CertificateData) (verdict : Verdict) → Holds m x → AreSumsInRange m x → IsFirstFaultOf m x inequalities (fault_of verdict) → verdict ≡ Accepted
accepts m x Accepted holds ranges h = refl
accepts m x (VRejected number place left right) holds ranges h = absurd (no-first-fault m x holds ranges inequalities (Rejected number place left right) h)
accepts m x (VRange number place) holds ranges h = absurd (no-first-fault m x holds ranges inequalities (Range number place) h)
