-- A run whose quanta grow with its levels is legitimate with the quanta of an accepted certificate.
use Rattle.cert_check.proofs.Common
use Common.{ℕ, ℤ, ◌*ℤ◌, ◌+ℤ◌, ◌-ℤ◌, ◌<ℤ◌, ◌<◌, ◌∙◌, ◌≡◌, ◌≤ℤ◌, ◌≤◌, ◌⊎◌, abs_of, ap, arith}
use Common.{cases_lt, CertificateData, expand, Holds, inl, inr, ints, mul-cancel, mul-mono, mul-≥}
use Common.{one-mul, pos, size-cancel, size-same, size-scale, suc, sym, System, Vector, zero}
use Rattle.cert_check.proofs.Run.{Run, IsLegitimate, IsCertifiedStart, IsQuantumAt, KeepsLevels}
use Rattle.cert_check.proofs.Run.{AdmitsShares}
use Rattle.cert_check.proofs.Basin.{basin, certified-≤, place-≤, offset}

-- within one level is within a quantum that is at least 1
pub level-≤ : (k q v : ℤ) → pos 0 <ℤ k → pos 1 ≤ℤ q → abs_of v ≤ℤ k → abs_of v ≤ℤ (pos 1 *ℤ k *ℤ q)
level-≤ k q v k> q≥ h =
    let k≥ : pos 0 ≤ℤ k = omega (arith, ints) in
    let d : pos 0 ≤ℤ (q -ℤ pos 1) = omega (arith, ints) in
    let p = simp expand at (mul-≥ k (q -ℤ pos 1) k≥ d) in
    let e : pos 1 *ℤ k *ℤ q ≡ k *ℤ q = ap (λ (x : ℤ). x *ℤ q) (one-mul k) in
    let f : k *ℤ pos 1 ≡ k = omega (arith, ints) in
    rw e (omega (arith, ints))

-- a quantum at a level in the invariant set is at most the certified one
pub quantum-≤ : (share own q certified level state c z k : ℤ) → pos 0 <ℤ k → pos 0 ≤ℤ share → own ≤ℤ certified
    → (share *ℤ (abs_of c +ℤ z +ℤ certified)) ≤ℤ (pos 4096 *ℤ certified)
    → abs_of (state -ℤ pos 1 *ℤ k *ℤ c) ≤ℤ (pos 1 *ℤ k *ℤ z) → abs_of (state -ℤ k *ℤ level) ≤ℤ (pos 1 *ℤ k *ℤ certified)
    → (q ≡ own) ⊎ ((pos 4096 *ℤ q) ≤ℤ (share *ℤ abs_of level)) → q ≤ℤ certified
quantum-≤ share own q certified level state c z k k> share≥ own≤ shares near_c near_level (inl e) = omega (arith, ints)
quantum-≤ share own q certified level state c z k k> share≥ own≤ shares near_c near_level (inr h) =
    let k≥ : pos 0 ≤ℤ k = omega (arith, ints) in
    let centre = size-scale k c (abs_of c) k≥ (size-same c) in
    let spread : k *ℤ (abs_of c +ℤ z +ℤ certified) ≡ k *ℤ abs_of c +ℤ k *ℤ z +ℤ k *ℤ certified = expand_three k (abs_of c) z certified in
    let near_c' : abs_of (state -ℤ k *ℤ c) ≤ℤ (k *ℤ z) = rw one-mul at near_c in
    let near_level' : abs_of (state -ℤ k *ℤ level) ≤ℤ (k *ℤ certified) = rw one-mul at near_level in
    let scaled : abs_of (k *ℤ level) ≤ℤ (k *ℤ (abs_of c +ℤ z +ℤ certified)) = rw spread (omega (arith, ints)) in
    let within = size-cancel k level (abs_of c +ℤ z +ℤ certified) k> scaled in
    let a = mul-mono share _ _ share≥ within in
    let b : (pos 4096 *ℤ q) ≤ℤ (pos 4096 *ℤ certified) = chain _ _ _ _ h a shares in
    let positive : pos 0 <ℤ pos 4096 = record { lt = tt } in
    mul-cancel (pos 4096) q certified positive b
  where
    expand_three : (k a b c : ℤ) → k *ℤ (a +ℤ b +ℤ c) ≡ k *ℤ a +ℤ k *ℤ b +ℤ k *ℤ c
    expand_three k a b c = simp expand

    chain : (a b c d : ℤ) → a ≤ℤ b → b ≤ℤ c → c ≤ℤ d → a ≤ℤ d
    chain a b c d h l r = omega (arith, ints)

-- the first places of a run
abbrev prefix : Run → ℕ → Run
prefix w i = record { scale = 1; refinement = 1; last = i; states = w.states; levels = w.levels }

certified-≥ : (m : System) (x : CertificateData) → ((j : ℕ) → j < m.n → pos 1 ≤ℤ m.quantum j) → Holds m x → (j : ℕ) → j < m.n → pos 1 ≤ℤ x.q j
certified-≥ m x quantum≥ holds j l = let a = quantum≥ j l in let b = holds.quanta j l in omega (arith, ints)

-- the place after a legitimate run
new-near : (m : System) (x : CertificateData) → pos 0 <ℤ m.unit → pos 0 ≤ℤ m.share → ((j : ℕ) → j < m.n → pos 1 ≤ℤ m.quantum j) → Holds m x
    → (start : Vector) (w : Run) → IsCertifiedStart m x start → KeepsLevels m start w
    → (i : ℕ) → suc i ≤ w.last → IsLegitimate m x.q start (prefix w i) → (j : ℕ) → j < m.n
    → abs_of (w.states (suc i) j -ℤ m.unit *ℤ w.levels (suc i) j) ≤ℤ (pos 1 *ℤ m.unit *ℤ x.q j)
new-near m x unit> share≥ quantum≥ holds start w certified keeps i h before j l = by (keeps.next i j h l)
  where
    stretch : (k q c v : ℤ) → pos 0 <ℤ k → q ≤ℤ c → abs_of v ≤ℤ (k *ℤ q) → abs_of v ≤ℤ (pos 1 *ℤ k *ℤ c)
    stretch k q c v k> q≤ h =
        let k≥ : pos 0 ≤ℤ k = omega (arith, ints) in
        let a = mul-mono k q c k≥ q≤ in
        let e : pos 1 *ℤ k *ℤ c ≡ k *ℤ c = ap (λ (x : ℤ). x *ℤ c) (one-mul k) in
        rw e (omega (arith, ints))

    by : (abs_of (w.states (suc i) j -ℤ m.unit *ℤ w.levels (suc i) j) ≤ℤ m.unit)
        ⊎ ((q : ℤ) × IsQuantumAt m j (w.levels i j) q × (w.levels (suc i) j ≡ w.levels i j)
        × (abs_of (w.states (suc i) j -ℤ m.unit *ℤ w.levels (suc i) j) ≤ℤ (m.unit *ℤ q)))
        → abs_of (w.states (suc i) j -ℤ m.unit *ℤ w.levels (suc i) j) ≤ℤ (pos 1 *ℤ m.unit *ℤ x.q j)
    by (inl small) = level-≤ m.unit (x.q j) (w.states (suc i) j -ℤ m.unit *ℤ w.levels (suc i) j) unit> (certified-≥ m x quantum≥ holds j l) small
    by (inr (q, quantum, same, within)) =
        let inside = basin m x holds unit> start (prefix w i) before (certified-≤ m x holds start certified) i (omega arith) in
        let unit≥ : pos 0 ≤ℤ (pos 1 *ℤ m.unit) = omega (arith, ints) in
        let near_c = place-≤ m x holds (pos 1 *ℤ m.unit) x.r (x.z j) (offset m x (pos 1) (w.states i)) unit≥ (holds.signs.z j l) inside j l (holds.reach j l) in
        let q≤ = quantum-≤ m.share (m.quantum j) q (x.q j) (w.levels i j) (w.states i j) (x.c j) (x.z j) m.unit unit> share≥ (holds.quanta j l) (holds.shares j l)
        near_c (before.near i j (omega arith) l) quantum in
        stretch m.unit q (x.q j) (w.states (suc i) j -ℤ m.unit *ℤ w.levels (suc i) j) unit> q≤ within

next-near : (m : System) (x : CertificateData) → pos 0 <ℤ m.unit → pos 0 ≤ℤ m.share → ((j : ℕ) → j < m.n → pos 1 ≤ℤ m.quantum j) → Holds m x
    → (start : Vector) (w : Run) → IsCertifiedStart m x start → KeepsLevels m start w
    → (i : ℕ) → suc i ≤ w.last → IsLegitimate m x.q start (prefix w i) → (j : ℕ) → j < m.n → (k : ℕ) → k ≤ suc i → (i < k) ⊎ (k ≤ i)
    → abs_of (w.states k j -ℤ m.unit *ℤ w.levels k j) ≤ℤ (pos 1 *ℤ m.unit *ℤ x.q j)
next-near m x unit> share≥ quantum≥ holds start w certified keeps i h before j l k below (inl after) =
    let e : k ≡ suc i = omega arith in
    rw e (new-near m x unit> share≥ quantum≥ holds start w certified keeps i h before j l)
next-near m x unit> share≥ quantum≥ holds start w certified keeps i h before j l k below (inr early) = before.near k j early l

-- the first i + 1 places are a legitimate run
prefix-legitimate : (m : System) (x : CertificateData) → pos 0 <ℤ m.unit → pos 0 ≤ℤ m.share → ((j : ℕ) → j < m.n → pos 1 ≤ℤ m.quantum j) → Holds m x
    → (start : Vector) (w : Run) → IsCertifiedStart m x start → KeepsLevels m start w
    → (i : ℕ) → i ≤ w.last → IsLegitimate m x.q start (prefix w i)
prefix-legitimate m x unit> share≥ quantum≥ holds start w certified keeps zero h = record {
  scaled = omega arith;
  refined = omega arith;
  starts = λ j l. keeps.starts j l ∙ sym (one-mul (start j));
  moves = λ i j never l. absurd (omega arith);
  near = λ i j first l.
      let e : i ≡ 0 = omega arith in
      rw e (level-≤ m.unit (x.q j) (w.states 0 j -ℤ m.unit *ℤ w.levels 0 j) unit> (certified-≥ m x quantum≥ holds j l) (keeps.first j l));
}
prefix-legitimate m x unit> share≥ quantum≥ holds start w certified keeps (suc i) h =
    let before = prefix-legitimate m x unit> share≥ quantum≥ holds start w certified keeps i (omega arith) in
    record {
      scaled = omega arith;
      refined = omega arith;
      starts = before.starts;
      moves = λ i j k l. let e = keeps.moves i j (omega arith) l in omega (arith, ints);
      near = λ k j below l. next-near m x unit> share≥ quantum≥ holds start w certified keeps i h before j l k below (cases_lt i k);
    }

pub shares : AdmitsShares
shares m x unit> share≥ quantum≥ holds start w certified keeps =
    let legitimate = prefix-legitimate m x unit> share≥ quantum≥ holds start w certified keeps w.last (omega arith) in
    record {
      scaled = omega (arith, keeps.scale);
      refined = omega (arith, keeps.refinement);
      starts = λ j l. rw keeps.scale (legitimate.starts j l);
      moves = λ i j h l. rw (keeps.scale, keeps.refinement) (legitimate.moves i j h l);
      near = λ i j h l. rw keeps.scale (legitimate.near i j h l);
    }
