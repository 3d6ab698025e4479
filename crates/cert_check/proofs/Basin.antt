-- Every state of a legitimate run is in the invariant set, and its slopes are bounded.
use Rattle.cert_check.proofs.Common
use Common.{ℕ, ℤ, ◌*ℤ◌, ◌+ℤ◌, ◌-ℤ◌, ◌<ℤ◌, ◌<◌, ◌∙◌, ◌≡◌, ◌≤ℤ◌, ◌≤◌, abs_of, ap, ap₂, arith}
use Common.{centre_disturbance, centre_slope, CertificateData, expand, form, form-same, form-times}
use Common.{Holds, inl, inr, ints, level_error, mul-add, mul-cancel, mul-mono, mul-≥, neg_ℤ, pos}
use Common.{product, refl, size-cancel, size-same, size-scale, slope_limit, square-≥, step, suc}
use Common.{sum_below, System, times, times-add, times-neg, times-same, times-scale, times-times}
use Common.{Vector, weighted-size, zero}
use Rattle.std.proofs.Math.IntN.{+ℤ_assoc}
use Rattle.mu_num.proofs.Integers.{mul_assoc}
use Rattle.cert_matrix.proofs.Sizes.{size-shrink, root-≤}
use Rattle.cert_check.proofs.Run.{Run, IsLegitimate, IsInBasin, IsCertifiedStart}
use Rattle.cert_check.proofs.Forms.{pm-≥, one-≤, form-decays}

-- the distance from the scaled centre
abbrev pub offset : System → CertificateData → ℤ → Vector → Vector
offset m x s state j = state j -ℤ s *ℤ m.unit *ℤ x.c j

-- a form within κ² b keeps place k within κ z, where b is at most p_k z²
pub place-≤ : (m : System) (x : CertificateData) → Holds m x → (kappa b z : ℤ) (y : Vector) → pos 0 ≤ℤ kappa → pos 0 ≤ℤ z
    → form m.n x.pm y ≤ℤ (kappa *ℤ kappa *ℤ b) → (k : ℕ) → k < m.n → b ≤ℤ (x.p k *ℤ (z *ℤ z)) → abs_of (y k) ≤ℤ (kappa *ℤ z)
place-≤ m x holds kappa b z y kappa≥ z≥ below k h enough =
    let p≥ = holds.signs.p k h in
    let p> : pos 0 <ℤ x.p k = omega (arith, ints) in
    let a = one-≤ m x holds y k h in
    let c : (x.p k *ℤ (y k *ℤ y k)) ≤ℤ (x.p k *ℤ ((kappa *ℤ z) *ℤ (kappa *ℤ z))) =
    chain (x.p k *ℤ (y k *ℤ y k)) (form m.n x.pm y) (kappa *ℤ kappa *ℤ b) _ a below
    (simp expand (simp expand at (mul-mono (kappa *ℤ kappa) _ _ (square-≥ kappa) enough))) in
    root-≤ (y k) (kappa *ℤ z) (mul-≥ kappa z kappa≥ z≥) (mul-cancel (x.p k) _ _ p> c)
  where
    chain : (a b c d : ℤ) → a ≤ℤ b → b ≤ℤ c → c ≤ℤ d → a ≤ℤ d
    chain a b c d h k l = omega (arith, ints)

-- K times a slope is the coefficients times the distance of the levels from the centre, and the slope at the centre
centred : (m : System) (x : CertificateData) (s : ℤ) (level u : Vector)
    → ((j : ℕ) → j < m.n → u j ≡ m.unit *ℤ level j -ℤ s *ℤ m.unit *ℤ x.c j)
    → (j : ℕ) → m.unit *ℤ (times m.n m.coef level j +ℤ s *ℤ m.constant j) ≡ times m.n m.coef u j +ℤ s *ℤ m.unit *ℤ centre_slope m x j
centred m x s level u same j =
    let a = times-same m.n m.coef u (λ k. m.unit *ℤ level k +ℤ neg_ℤ (s *ℤ m.unit *ℤ x.c k)) same j in
    let b = times-add m.n m.coef (λ k. m.unit *ℤ level k) (λ k. neg_ℤ (s *ℤ m.unit *ℤ x.c k)) j in
    let c = times-scale m.n m.coef m.unit level j in
    let d = times-neg m.n m.coef (λ k. s *ℤ m.unit *ℤ x.c k) j in
    let e = times-scale m.n m.coef (s *ℤ m.unit) x.c j in
    numbers m.unit s (times m.n m.coef level j) (m.constant j) (times m.n m.coef u j) (times m.n m.coef x.c j) (omega (arith, ints))
  where
    numbers : (k s t b u c : ℤ) → u ≡ k *ℤ t -ℤ s *ℤ k *ℤ c → k *ℤ (t +ℤ s *ℤ b) ≡ u +ℤ s *ℤ k *ℤ (c +ℤ b)
    numbers k s t b u c e = rw e (simp expand (omega (arith, ints)))

-- a slope in the invariant set is within s times its bound
pub slope-≤ : (m : System) (x : CertificateData) → Holds m x → pos 0 <ℤ m.unit → (s : ℤ) → pos 0 ≤ℤ s → (state level : Vector)
    → form m.n x.pm (offset m x s state) ≤ℤ ((s *ℤ m.unit) *ℤ (s *ℤ m.unit) *ℤ x.r)
    → ((j : ℕ) → j < m.n → abs_of (state j -ℤ m.unit *ℤ level j) ≤ℤ (s *ℤ m.unit *ℤ x.q j))
    → (j : ℕ) → j < m.n → abs_of (times m.n m.coef level j +ℤ s *ℤ m.constant j) ≤ℤ (s *ℤ slope_limit m x j)
slope-≤ m x holds unit> s s≥ state level inside near j h =
    let unit≥ : pos 0 ≤ℤ m.unit = omega (arith, ints) in
    let kappa≥ = mul-≥ s m.unit s≥ unit≥ in
    let u : Vector = λ k. m.unit *ℤ level k -ℤ s *ℤ m.unit *ℤ x.c k in
    let each : (k : ℕ) → k < m.n → abs_of (u k) ≤ℤ (s *ℤ m.unit *ℤ (x.z k +ℤ x.q k)) = λ k l.
    let r = place-≤ m x holds (s *ℤ m.unit) x.r (x.z k) (offset m x s state) kappa≥ (holds.signs.z k l) inside k l (holds.reach k l) in
    let q = near k l in
    sum (state k) (m.unit *ℤ level k) (s *ℤ m.unit *ℤ x.c k) (s *ℤ m.unit) (x.z k) (x.q k) r q in
    let a = weighted-size m.n (s *ℤ m.unit) (m.coef j) u (λ k. x.z k +ℤ x.q k) each in
    let b = size-scale (s *ℤ m.unit) (centre_slope m x j) (abs_of (centre_slope m x j)) kappa≥ (size-same (centre_slope m x j)) in
    let c = centred m x s level u (λ k l. refl) j in
    size-cancel m.unit (times m.n m.coef level j +ℤ s *ℤ m.constant j) (s *ℤ slope_limit m x j) unit>
    (last m.unit s (times m.n m.coef level j +ℤ s *ℤ m.constant j) (times m.n m.coef u j) (centre_slope m x j)
    (sum_below m.n (λ k. abs_of (m.coef j k) *ℤ (x.z k +ℤ x.q k))) c a b)
  where
    sum : (state level centre kappa z q : ℤ) → abs_of (state -ℤ centre) ≤ℤ (kappa *ℤ z) → abs_of (state -ℤ level) ≤ℤ (kappa *ℤ q)
        → abs_of (level -ℤ centre) ≤ℤ (kappa *ℤ (z +ℤ q))
    sum state level centre kappa z q h k = rw (mul-add kappa z q) (omega (arith, ints))

    end : (k s f u rho t w : ℤ) → f ≡ u +ℤ s *ℤ k *ℤ rho → abs_of u ≤ℤ (s *ℤ k *ℤ t) → abs_of (s *ℤ k *ℤ rho) ≤ℤ (s *ℤ k *ℤ w)
        → abs_of f ≤ℤ (k *ℤ (s *ℤ (t +ℤ w)))
    end k s f u rho t w e h l =
        let g : k *ℤ (s *ℤ (t +ℤ w)) ≡ s *ℤ k *ℤ t +ℤ s *ℤ k *ℤ w = simp expand in
        omega (arith, ints)

    last : (k s f u rho t : ℤ) → k *ℤ f ≡ u +ℤ s *ℤ k *ℤ rho → abs_of u ≤ℤ (s *ℤ k *ℤ t) → abs_of (s *ℤ k *ℤ rho) ≤ℤ (s *ℤ k *ℤ abs_of rho)
        → abs_of (k *ℤ f) ≤ℤ (k *ℤ (s *ℤ (t +ℤ abs_of rho)))
    last k s f u rho t e h l = end k s (k *ℤ f) u rho t (abs_of rho) e h l

-- in the invariant set the next state is near its previous level
pub miss-≤ : (m : System) (x : CertificateData) → Holds m x → pos 0 <ℤ m.unit → (s r : ℤ) → pos 0 <ℤ s → pos 0 <ℤ r → (state next level : Vector)
    → form m.n x.pm (offset m x s state) ≤ℤ ((s *ℤ m.unit) *ℤ (s *ℤ m.unit) *ℤ x.r)
    → ((j : ℕ) → j < m.n → abs_of (state j -ℤ m.unit *ℤ level j) ≤ℤ (s *ℤ m.unit *ℤ x.q j))
    → ((j : ℕ) → j < m.n → r *ℤ (next j -ℤ state j) ≡ times m.n m.coef level j +ℤ s *ℤ m.constant j)
    → (j : ℕ) → j < m.n → abs_of (m.unit *ℤ level j -ℤ next j) ≤ℤ (s *ℤ m.unit *ℤ level_error x j)
miss-≤ m x holds unit> s r s> r> state next level inside near moves j h =
    let s≥ : pos 0 ≤ℤ s = omega (arith, ints) in
    let a = slope-≤ m x holds unit> s s≥ state level inside near j h in
    let b = mul-mono s _ _ s≥ (holds.slopes j h) in
    let c : abs_of (r *ℤ (next j -ℤ state j)) ≤ℤ (s *ℤ (m.unit *ℤ x.s j)) = rw (moves j h) (chain _ _ _ a b) in
    let d = size-shrink r (next j -ℤ state j) _ r> c in
    sum (state j) (next j) (m.unit *ℤ level j) s m.unit (x.q j) (x.s j) d (near j h)
  where
    chain : (a b c : ℤ) → a ≤ℤ b → b ≤ℤ c → a ≤ℤ c
    chain a b c h k = omega (arith, ints)

    sum : (state next level s k q t : ℤ) → abs_of (next -ℤ state) ≤ℤ (s *ℤ (k *ℤ t)) → abs_of (state -ℤ level) ≤ℤ (s *ℤ k *ℤ q)
        → abs_of (level -ℤ next) ≤ℤ (s *ℤ k *ℤ (q +ℤ t))
    sum state next level s k q t h l = rw (mul-add (s *ℤ k) q t, mul_assoc s k t) (omega (arith, ints))

-- a step from the invariant set ends in the invariant set
pub basin-step : (m : System) (x : CertificateData) → Holds m x → pos 0 <ℤ m.unit → (s r : ℤ) → pos 0 <ℤ s → pos 0 <ℤ r → (state next level : Vector)
    → form m.n x.pm (offset m x s state) ≤ℤ ((s *ℤ m.unit) *ℤ (s *ℤ m.unit) *ℤ x.r)
    → ((j : ℕ) → j < m.n → abs_of (state j -ℤ m.unit *ℤ level j) ≤ℤ (s *ℤ m.unit *ℤ x.q j))
    → ((j : ℕ) → j < m.n → r *ℤ (next j -ℤ state j) ≡ times m.n m.coef level j +ℤ s *ℤ m.constant j)
    → form m.n x.pm (offset m x s next) ≤ℤ ((s *ℤ m.unit) *ℤ (s *ℤ m.unit) *ℤ x.r)
basin-step m x holds unit> s r s> r> state next level inside near moves =
    let kappa : ℤ = s *ℤ m.unit in
    let w : Vector = λ j. m.unit *ℤ level j -ℤ next j in
    let miss = miss-≤ m x holds unit> s r s> r> state next level inside near moves in
    let lambda≥ = holds.signs.lambda in
    step m.n x.pm m.coef x.mu x.lambda m.unit r kappa x.r (centre_disturbance m x) x.sigma_r
    (offset m x s state) (offset m x s next) (λ j. times m.n m.coef level j +ℤ s *ℤ m.constant j)
    (λ j. times m.n m.coef w j +ℤ kappa *ℤ centre_slope m x j)
    holds.symmetric (pm-≥ m x holds) (form-decays m x holds) unit> r> (omega (arith, ints))
    (λ i h. positive (x.mu i) (holds.signs.mu i h))
    (λ i h. ap (λ (y : ℤ). r *ℤ y) (offsets (next i) (state i) (s *ℤ m.unit *ℤ x.c i)) ∙ moves i h)
    (λ i h. centred m x s level (λ j. offset m x s next j +ℤ w j) (λ j l. level_offset (next j) (m.unit *ℤ level j) (s *ℤ m.unit *ℤ x.c j)) i
    ∙ ap (λ (y : ℤ). y +ℤ kappa *ℤ centre_slope m x i) (times-add m.n m.coef (offset m x s next) w i)
    ∙ +ℤ_assoc (times m.n m.coef (offset m x s next) i) (times m.n m.coef w i) (kappa *ℤ centre_slope m x i))
    (λ i h.
    let a = times-add m.n x.pm (times m.n m.coef w) (λ j. kappa *ℤ centre_slope m x j) i in
    let b = times-times m.n x.pm m.coef w i in
    let c = times-scale m.n x.pm kappa (centre_slope m x) i in
    let d = weighted-size m.n kappa (product m.n x.pm m.coef i) w (level_error x) miss in
    let s≥ : pos 0 ≤ℤ s = omega (arith, ints) in
    let unit≥ : pos 0 ≤ℤ m.unit = omega (arith, ints) in
    let e = size-scale kappa (times m.n x.pm (centre_slope m x) i) _ (mul-≥ s m.unit s≥ unit≥) (size-same (times m.n x.pm (centre_slope m x) i)) in
    gain kappa _ (times m.n (product m.n x.pm m.coef) w i) (kappa *ℤ times m.n x.pm (centre_slope m x) i) _ _ (a ∙ ap₂ (λ (y z : ℤ). y +ℤ z) b c) d e)
    holds.centre_gains holds.centre_sum inside
  where
    positive : (y : ℤ) → pos 1 ≤ℤ y → pos 0 <ℤ y
    positive y h = omega (arith, ints)

    offsets : (a b c : ℤ) → (a -ℤ c) -ℤ (b -ℤ c) ≡ a -ℤ b
    offsets a b c = omega (arith, ints)

    level_offset : (next level c : ℤ) → (next -ℤ c) +ℤ (level -ℤ next) ≡ level -ℤ c
    level_offset next level c = omega (arith, ints)

    gain : (kappa v a b t u : ℤ) → v ≡ a +ℤ b → abs_of a ≤ℤ (kappa *ℤ t) → abs_of b ≤ℤ (kappa *ℤ u) → abs_of v ≤ℤ (kappa *ℤ (t +ℤ u))
    gain kappa v a b t u e h k = rw (mul-add kappa t u) (omega (arith, ints))

-- the first state is in the invariant set if the start is
start-≤ : (m : System) (x : CertificateData) (s : ℤ) (state start : Vector)
    → ((j : ℕ) → j < m.n → state j ≡ s *ℤ start j)
    → form m.n x.pm (λ k. start k -ℤ m.unit *ℤ x.c k) ≤ℤ (m.unit *ℤ m.unit *ℤ x.r)
    → form m.n x.pm (offset m x s state) ≤ℤ ((s *ℤ m.unit) *ℤ (s *ℤ m.unit) *ℤ x.r)
start-≤ m x s state start same below =
    let y : Vector = λ k. start k -ℤ m.unit *ℤ x.c k in
    let a = form-same m.n x.pm (offset m x s state) (λ k. s *ℤ y k)
    (λ j h. ap (λ (z : ℤ). z -ℤ s *ℤ m.unit *ℤ x.c j) (same j h) ∙ spread s (start j) m.unit (x.c j)) in
    let b = form-times m.n x.pm s y in
    bound s m.unit x.r (form m.n x.pm y) (form m.n x.pm (offset m x s state)) (a ∙ b) (mul-mono (s *ℤ s) _ _ (square-≥ s) below)
  where
    spread : (s y k c : ℤ) → s *ℤ y -ℤ s *ℤ k *ℤ c ≡ s *ℤ (y -ℤ k *ℤ c)
    spread s y k c = simp expand

    bound : (s k r f v : ℤ) → v ≡ (s *ℤ s) *ℤ f → ((s *ℤ s) *ℤ f) ≤ℤ ((s *ℤ s) *ℤ (k *ℤ k *ℤ r)) → v ≤ℤ ((s *ℤ k) *ℤ (s *ℤ k) *ℤ r)
    bound s k r f v e h =
        let g : (s *ℤ k) *ℤ (s *ℤ k) *ℤ r ≡ (s *ℤ s) *ℤ (k *ℤ k *ℤ r) = simp expand in
        rw (e, g) h

pub positive_pos : (n : ℕ) → 1 ≤ n → pos 0 <ℤ pos n
positive_pos n h = omega (arith, ints)

-- every state of a legitimate run is in the invariant set
pub basin : (m : System) (x : CertificateData) → Holds m x → pos 0 <ℤ m.unit → (start : Vector) (w : Run) → IsLegitimate m x.q start w
    → form m.n x.pm (λ k. start k -ℤ m.unit *ℤ x.c k) ≤ℤ (m.unit *ℤ m.unit *ℤ x.r)
    → (i : ℕ) → i ≤ w.last → IsInBasin m x w.scale (w.states i)
basin m x holds unit> start w run below zero h = start-≤ m x (pos w.scale) (w.states 0) start run.starts below
basin m x holds unit> start w run below (suc i) h =
    basin-step m x holds unit> (pos w.scale) (pos w.refinement) (positive_pos w.scale run.scaled) (positive_pos w.refinement run.refined)
    (w.states i) (w.states (suc i)) (w.levels i)
    (basin m x holds unit> start w run below i (omega arith))
    (λ j l. run.near i j (omega arith) l)
    (λ j l. run.moves i j (omega arith) l)

-- the start of a certified run is in the invariant set
pub certified-≤ : (m : System) (x : CertificateData) → Holds m x → (start : Vector) → IsCertifiedStart m x start
    → form m.n x.pm (λ k. start k -ℤ m.unit *ℤ x.c k) ≤ℤ (m.unit *ℤ m.unit *ℤ x.r)
certified-≤ m x holds start (inl e) =
    rw (form-same m.n x.pm (λ k. start k -ℤ m.unit *ℤ x.c k) (λ k. x.start1 k -ℤ m.unit *ℤ x.c k) (λ j h. ap (λ (y : ℤ). y -ℤ m.unit *ℤ x.c j) (e j h))) holds.first_start
certified-≤ m x holds start (inr e) =
    rw (form-same m.n x.pm (λ k. start k -ℤ m.unit *ℤ x.c k) (λ k. x.start2 k -ℤ m.unit *ℤ x.c k) (λ j h. ap (λ (y : ℤ). y -ℤ m.unit *ℤ x.c j) (e j h))) holds.second_start
