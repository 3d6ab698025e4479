-- What it says of a certificate that these inequalities have no fault.
use Rattle.cert_check.proofs.Common
use Common.{[], ℕ, ℤ, ◌*ℤ◌, ◌-ℤ◌, ◌<◌, ◌∷◌, ◌≡◌, ◌≤ℤ◌, ◌≤◌, ◌⊎◌, arith, Bool, cases_lt}
use Common.{CertificateData, Decides-int_eq, false, false≢true, form, Holds, if◌then◌else◌}
use Common.{inequalities, Inequality, inl, inr, int_eq, ints, is_same_below, IsFaultOf}
use Common.{IsFirstFaultOf, IsSymmetric, level_range, List, mul-≥, None, pair_of, pairs, pos, refl}
use Common.{scaled_offset, square-≥, subst, sym, System, Table, true, Vector}
use Rattle.cert_check.proofs.Pairs.{pair-found}
use Rattle.cert_check.proofs.Gaps.{form-same, form-zeros, same-below, gap-one}

-- each of the inequalities has no fault
abbrev pub AllFine : System → CertificateData → List Inequality → Type 0
AllFine m x [] = Unit {0}
AllFine m x (i ∷ is) = IsFaultOf m x i None × AllFine m x is

pub all-fine : (m : System) (x : CertificateData) (is : List Inequality) → IsFirstFaultOf m x is None → AllFine m x is
all-fine m x [] h = tt
all-fine m x (i ∷ is) (inl h) = (h.0, all-fine m x is h.1)
all-fine m x (i ∷ is) (inr h) = absurd (false≢true h.0)

share-≤ : (share reach q : ℤ) (t : Bool) → int_eq share (pos 0) ≡ t → pos 1 ≤ℤ q
    → (if t then pos 0 else share *ℤ reach) ≤ℤ (if t then pos 0 else pos 4096 *ℤ q) → (share *ℤ reach) ≤ℤ (pos 4096 *ℤ q)
share-≤ share reach q true e q≥ h =
    let zero : share ≡ pos 0 = (Decides-int_eq share (pos 0)).0 e in
    rw zero (omega (arith, ints))
share-≤ share reach q false e q≥ h = h

-- what holds at each pair holds at each two places
symmetric-of : (n : ℕ) (pm : Table) → ((k : ℕ) → k < pairs n → pm (pair_of n k).0 (pair_of n k).1 ≡ pm (pair_of n k).1 (pair_of n k).0) → IsSymmetric n pm
symmetric-of n pm h i j hi hj = by (cases_lt i j) (cases_lt j i)
  where
    at : (i j : ℕ) → i < j → j < n → pm i j ≡ pm j i
    at i j l m =
        let p = pair-found n i j l m in
        let P : ℕ × ℕ → Type 0 = λ q. pm q.0 q.1 ≡ pm q.1 q.0 in
        subst P p.2 (h p.0 p.1)

    by : (i < j) ⊎ (j ≤ i) → (j < i) ⊎ (i ≤ j) → pm i j ≡ pm j i
    by (inl l) q = at i j l hj
    by (inr l) (inl q) = sym (at j i q hi)
    by (inr l) (inr q) = let e : i ≡ j = omega arith in rw e refl

apart-≤ : (n : ℕ) (pm : Table) (first second : Vector) (bound : ℤ) (t : Bool) → is_same_below n first second ≡ t → pos 0 ≤ℤ bound
    → (if t then pos 0 else form n pm (scaled_offset first (pos 1) second)) ≤ℤ (if t then pos 0 else bound) → form n pm (λ k. first k -ℤ second k) ≤ℤ bound
apart-≤ n pm first second bound true e b≥ h =
    let s = same-below n first second e in
    let z = form-zeros n pm (λ k. first k -ℤ second k) (λ k l. let q = s k l in omega (arith, ints)) in
    omega (arith, ints)
apart-≤ n pm first second bound false e b≥ h =
    let z = form-same n pm (scaled_offset first (pos 1) second) (λ k. first k -ℤ second k) (λ k l. gap-one first second k) in
    omega (arith, ints)

-- where no inequality has a fault, all hold
pub accepted-holds : (m : System) (x : CertificateData) → ((j : ℕ) → j < m.n → pos 1 ≤ℤ m.quantum j) → IsFirstFaultOf m x inequalities None → Holds m x
accepted-holds m x quantum≥ h =
    let f = all-fine m x inequalities h in
    record {
      signs = record {
        p = λ k l. (f.0 k l).1;
        mu = λ k l. (f.1.0 k l).1;
        lambda = (f.1.1.0 0 (omega arith)).1;
        h1 = (f.1.1.1.0 0 (omega arith)).1;
        h2 = (f.1.1.1.1.0 0 (omega arith)).1;
        r = (f.1.1.1.1.1.0 0 (omega arith)).1;
        z = λ k l. (f.1.1.1.1.1.1.0 k l).1;
        s = λ k l. (f.1.1.1.1.1.1.1.0 k l).1;
        sigma_r = λ k l. (f.1.1.1.1.1.1.1.1.0 k l).1;
        cc = (f.1.1.1.1.1.1.1.1.1.0 0 (omega arith)).1;
        sigma_c = λ k l. (f.1.1.1.1.1.1.1.1.1.1.0 k l).1;
        e = λ k l. (f.1.1.1.1.1.1.1.1.1.1.1.0 k l).1;
      };
      symmetric = symmetric-of m.n x.pm (λ k l. (f.1.1.1.1.1.1.1.1.1.1.1.1.0 k l).1);
      bounded_below = λ k l. (f.1.1.1.1.1.1.1.1.1.1.1.1.1.1.0 k l).1;
      decays = λ k l. (f.1.1.1.1.1.1.1.1.1.1.1.1.1.1.1.1.1.0 k l).1;
      first_start = (f.1.1.1.1.1.1.1.1.1.1.1.1.1.1.1.1.1.1.0 0 (omega arith)).1;
      second_start = (f.1.1.1.1.1.1.1.1.1.1.1.1.1.1.1.1.1.1.1.0 0 (omega arith)).1;
      starts_apart =
          let c≥ = (f.1.1.1.1.1.1.1.1.1.0 0 (omega arith)).1 in
          let b≥ = mul-≥ (m.unit *ℤ m.unit) x.cc (square-≥ m.unit) c≥ in
          apart-≤ m.n x.pm x.start1 x.start2 (m.unit *ℤ m.unit *ℤ x.cc) (is_same_below m.n x.start1 x.start2) refl b≥ (f.1.1.1.1.1.1.1.1.1.1.1.1.1.1.1.1.1.1.1.1.0 0 (omega arith)).1;
      reach = λ k l. (f.1.1.1.1.1.1.1.1.1.1.1.1.1.1.1.1.1.1.1.1.1.0 k l).1;
      slopes = λ k l. (f.1.1.1.1.1.1.1.1.1.1.1.1.1.1.1.1.1.1.1.1.1.1.0 k l).1;
      centre_gains = λ k l. (f.1.1.1.1.1.1.1.1.1.1.1.1.1.1.1.1.1.1.1.1.1.1.1.0 k l).1;
      centre_sum = (f.1.1.1.1.1.1.1.1.1.1.1.1.1.1.1.1.1.1.1.1.1.1.1.1.0 0 (omega arith)).1;
      pair_gains = λ k l. (f.1.1.1.1.1.1.1.1.1.1.1.1.1.1.1.1.1.1.1.1.1.1.1.1.1.0 k l).1;
      pair_sum = (f.1.1.1.1.1.1.1.1.1.1.1.1.1.1.1.1.1.1.1.1.1.1.1.1.1.1.0 0 (omega arith)).1;
      distances = λ k l. (f.1.1.1.1.1.1.1.1.1.1.1.1.1.1.1.1.1.1.1.1.1.1.1.1.1.1.1.0 k l).1;
      quanta = λ k l. (f.1.1.1.1.1.1.1.1.1.1.1.1.1.1.1.1.1.1.1.1.1.1.1.1.1.1.1.1.0 k l).1;
      shares = λ k l.
          let a = quantum≥ k l in
          let b = (f.1.1.1.1.1.1.1.1.1.1.1.1.1.1.1.1.1.1.1.1.1.1.1.1.1.1.1.1.0 k l).1 in
          let q≥ : pos 1 ≤ℤ x.q k = omega (arith, ints) in
          share-≤ m.share (level_range x k) (x.q k) (int_eq m.share (pos 0)) refl q≥ (f.1.1.1.1.1.1.1.1.1.1.1.1.1.1.1.1.1.1.1.1.1.1.1.1.1.1.1.1.1.0 k l).1;
    }
