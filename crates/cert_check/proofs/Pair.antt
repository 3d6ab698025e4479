-- Two legitimate runs stay close.
use Rattle.cert_check.proofs.Common
use Common.{ℕ, ℤ, ◌*ℤ◌, ◌*◌, ◌+ℤ◌, ◌-ℤ◌, ◌<ℤ◌, ◌<◌, ◌∙◌, ◌≡◌, ◌≤ℤ◌, ◌≤◌, abs_of, add-mul, ap, ap₂}
use Common.{arith, CertificateData, expand, form, form-same, form-times, Holds, inl, inr, ints}
use Common.{level_error, mul-cancel, mul-le-mul_right, mul-mono, mul-≥, neg_ℤ, negsuc}
use Common.{pair_disturbance, pos, product, refl, size-scale, square-≥, step, suc, sym, System}
use Common.{Table, times, times-add, times-neg, times-same, times-scale, times-times, Vector}
use Common.{weighted-size, zero}
use Rattle.std.proofs.Math.IntN.{*ℤ_comm}
use Rattle.cert_matrix.proofs.Order.{mul->}
use Rattle.cert_check.proofs.Run.{Run, IsLegitimate, IsCertifiedStart, IsCommonTick, IsInside}
use Rattle.cert_check.proofs.Forms.{pm-≥, form-decays}
use Rattle.cert_check.proofs.Basin.{certified-≤, positive_pos}
use Rattle.cert_check.proofs.Grid.{fine_states, fine_levels, fine-steps, fine-at}

-- the difference of two states, each times the other's scale
abbrev scaled_offset : ℤ → ℤ → Vector → Vector → Vector
scaled_offset s t v w j = t *ℤ v j -ℤ s *ℤ w j

times-gap : (n : ℕ) (a : Table) (s t : ℤ) (v w : Vector) (i : ℕ) → times n a (scaled_offset s t v w) i ≡ scaled_offset s t (times n a v) (times n a w) i
times-gap n a s t v w i =
    times-add n a (λ j. t *ℤ v j) (λ j. neg_ℤ (s *ℤ w j)) i
    ∙ ap₂ (λ (y z : ℤ). y +ℤ z) (times-scale n a t v i) (times-neg n a (λ j. s *ℤ w j) i ∙ ap neg_ℤ (times-scale n a s w i))

-- one step of both runs
pair-step : (m : System) (x : CertificateData) → Holds m x → pos 0 <ℤ m.unit → (s t r : ℤ) → pos 0 ≤ℤ s → pos 0 ≤ℤ t → pos 0 <ℤ r
    → (v v' mv w w' mw : Vector)
    → ((j : ℕ) → j < m.n → r *ℤ (v' j -ℤ v j) ≡ times m.n m.coef mv j +ℤ s *ℤ m.constant j)
    → ((j : ℕ) → j < m.n → r *ℤ (w' j -ℤ w j) ≡ times m.n m.coef mw j +ℤ t *ℤ m.constant j)
    → ((j : ℕ) → j < m.n → abs_of (m.unit *ℤ mv j -ℤ v' j) ≤ℤ (s *ℤ m.unit *ℤ level_error x j))
    → ((j : ℕ) → j < m.n → abs_of (m.unit *ℤ mw j -ℤ w' j) ≤ℤ (t *ℤ m.unit *ℤ level_error x j))
    → form m.n x.pm (scaled_offset s t v w) ≤ℤ ((s *ℤ t *ℤ m.unit) *ℤ (s *ℤ t *ℤ m.unit) *ℤ x.cc)
    → form m.n x.pm (scaled_offset s t v' w') ≤ℤ ((s *ℤ t *ℤ m.unit) *ℤ (s *ℤ t *ℤ m.unit) *ℤ x.cc)
pair-step m x holds unit> s t r s≥ t≥ r> v v' mv w w' mw moves_v moves_w misses_v misses_w before =
    let kappa : ℤ = s *ℤ t *ℤ m.unit in
    let miss : Vector = scaled_offset s t (λ j. m.unit *ℤ mv j -ℤ v' j) (λ j. m.unit *ℤ mw j -ℤ w' j) in
    let lambda≥ = holds.signs.lambda in
    step m.n x.pm m.coef x.mu x.lambda m.unit r kappa x.cc (pair_disturbance m x) x.sigma_c
    (scaled_offset s t v w) (scaled_offset s t v' w') (scaled_offset s t (λ j. times m.n m.coef mv j +ℤ s *ℤ m.constant j) (λ j. times m.n m.coef mw j +ℤ t *ℤ m.constant j))
    (times m.n m.coef miss)
    holds.symmetric (pm-≥ m x holds) (form-decays m x holds) unit> r> (omega (arith, ints))
    (λ i h. positive (x.mu i) (holds.signs.mu i h))
    (λ i h. moved r s t (v i) (v' i) (w i) (w' i) _ _ (moves_v i h) (moves_w i h))
    (λ i h.
    cancel m.unit s t (m.constant i) (times m.n m.coef mv i) (times m.n m.coef mw i)
    ∙ ap (λ (y : ℤ). m.unit *ℤ y) (sym (times-gap m.n m.coef s t mv mw i))
    ∙ sym (times-scale m.n m.coef m.unit (scaled_offset s t mv mw) i)
    ∙ times-same m.n m.coef (λ j. m.unit *ℤ scaled_offset s t mv mw j) (λ j. scaled_offset s t v' w' j +ℤ miss j)
    (λ j l. level_gap m.unit s t (v' j) (w' j) (mv j) (mw j)) i
    ∙ times-add m.n m.coef (scaled_offset s t v' w') miss i)
    (λ i h.
    let a = times-times m.n x.pm m.coef miss i in
    let b = weighted-size m.n (kappa +ℤ kappa) (product m.n x.pm m.coef i) miss (level_error x)
    (λ j l. both s t m.unit (level_error x j) (m.unit *ℤ mv j -ℤ v' j) (m.unit *ℤ mw j -ℤ w' j) s≥ t≥ (misses_v j l) (misses_w j l)) in
    gain kappa (times m.n x.pm (times m.n m.coef miss) i) (times m.n (product m.n x.pm m.coef) miss i) _ a b)
    holds.pair_gains holds.pair_sum before
  where
    positive : (y : ℤ) → pos 1 ≤ℤ y → pos 0 <ℤ y
    positive y h = omega (arith, ints)

    moved : (r s t v v' w w' f g : ℤ) → r *ℤ (v' -ℤ v) ≡ f → r *ℤ (w' -ℤ w) ≡ g → r *ℤ ((t *ℤ v' -ℤ s *ℤ w') -ℤ (t *ℤ v -ℤ s *ℤ w)) ≡ t *ℤ f -ℤ s *ℤ g
    moved r s t v v' w w' f g e e' = rw (← e, ← e') (simp expand (omega (arith, ints)))

    cancel : (k s t b f g : ℤ) → k *ℤ (t *ℤ (f +ℤ s *ℤ b) -ℤ s *ℤ (g +ℤ t *ℤ b)) ≡ k *ℤ (t *ℤ f -ℤ s *ℤ g)
    cancel k s t b f g = simp expand (omega (arith, ints))

    level_gap : (k s t v w a b : ℤ) → k *ℤ (t *ℤ a -ℤ s *ℤ b) ≡ (t *ℤ v -ℤ s *ℤ w) +ℤ (t *ℤ (k *ℤ a -ℤ v) -ℤ s *ℤ (k *ℤ b -ℤ w))
    level_gap k s t v w a b = simp expand (omega (arith, ints))

    both : (s t k w a b : ℤ) → pos 0 ≤ℤ s → pos 0 ≤ℤ t → abs_of a ≤ℤ (s *ℤ k *ℤ w) → abs_of b ≤ℤ (t *ℤ k *ℤ w)
        → abs_of (t *ℤ a -ℤ s *ℤ b) ≤ℤ ((s *ℤ t *ℤ k +ℤ s *ℤ t *ℤ k) *ℤ w)
    both s t k w a b s≥ t≥ h l =
        let p = size-scale t a _ t≥ h in
        let q = size-scale s b _ s≥ l in
        let p' : t *ℤ (s *ℤ k *ℤ w) ≡ s *ℤ t *ℤ k *ℤ w = simp expand in
        let q' : s *ℤ (t *ℤ k *ℤ w) ≡ s *ℤ t *ℤ k *ℤ w = simp expand in
        let e = add-mul (s *ℤ t *ℤ k) (s *ℤ t *ℤ k) w in
        omega (arith, ints)

    gain : (kappa v u t : ℤ) → v ≡ u → abs_of u ≤ℤ ((kappa +ℤ kappa) *ℤ t) → abs_of v ≤ℤ (kappa *ℤ (pos 2 *ℤ t))
    gain kappa v u t e h =
        let g : kappa *ℤ (pos 2 *ℤ t) ≡ (kappa +ℤ kappa) *ℤ t = simp expand in
        rw (e, g) h

none-≤ : (m : System) (x : CertificateData) → Holds m x → (y : Vector) → form m.n x.pm (λ k. y k -ℤ y k) ≤ℤ (m.unit *ℤ m.unit *ℤ x.cc)
none-≤ m x holds y =
    let e = form-same m.n x.pm (λ k. y k -ℤ y k) (λ k. pos 0 *ℤ y k) (λ j h. omega (arith, ints)) in
    let f = form-times m.n x.pm (pos 0) y in
    let g = mul-≥ (m.unit *ℤ m.unit) x.cc (square-≥ m.unit) holds.signs.cc in
    omega (arith, ints)

apart-same : (m : System) (x : CertificateData) (y z v w : Vector) → ((j : ℕ) → j < m.n → y j ≡ v j) → ((j : ℕ) → j < m.n → z j ≡ w j)
    → form m.n x.pm (λ k. y k -ℤ z k) ≡ form m.n x.pm (λ k. v k -ℤ w k)
apart-same m x y z v w e e' = form-same m.n x.pm (λ k. y k -ℤ z k) (λ k. v k -ℤ w k) (λ j h. ap₂ (λ (a b : ℤ). a -ℤ b) (e j h) (e' j h))

-- two certified starts are apart by no more than the certificate says
apart-≤ : (m : System) (x : CertificateData) → Holds m x → (y z : Vector) → IsCertifiedStart m x y → IsCertifiedStart m x z
    → form m.n x.pm (λ k. y k -ℤ z k) ≤ℤ (m.unit *ℤ m.unit *ℤ x.cc)
apart-≤ m x holds y z (inl e) (inl e') = rw (apart-same m x y z x.start1 x.start1 e e') (none-≤ m x holds x.start1)
apart-≤ m x holds y z (inl e) (inr e') = rw (apart-same m x y z x.start1 x.start2 e e') holds.starts_apart
apart-≤ m x holds y z (inr e) (inl e') =
    turn (form m.n x.pm (λ k. x.start1 k -ℤ x.start2 k)) _ _
    (apart-same m x y z x.start2 x.start1 e e'
    ∙ form-same m.n x.pm (λ k. x.start2 k -ℤ x.start1 k) (λ k. negsuc 0 *ℤ (x.start1 k -ℤ x.start2 k)) (λ j h. omega (arith, ints))
    ∙ form-times m.n x.pm (negsuc 0) (λ k. x.start1 k -ℤ x.start2 k)) holds.starts_apart
  where
    turn : (f g b : ℤ) → g ≡ (negsuc 0 *ℤ negsuc 0) *ℤ f → f ≤ℤ b → g ≤ℤ b
    turn f g b e h = omega (arith, ints)
apart-≤ m x holds y z (inr e) (inr e') = rw (apart-same m x y z x.start2 x.start2 e e') (none-≤ m x holds x.start2)

-- the difference at the first place
first-≤ : (m : System) (x : CertificateData) (s1 s2 r1 r2 : ℤ) (y z v w : Vector)
    → ((j : ℕ) → j < m.n → v j ≡ r2 *ℤ (s1 *ℤ y j))
    → ((j : ℕ) → j < m.n → w j ≡ r1 *ℤ (s2 *ℤ z j))
    → form m.n x.pm (λ k. y k -ℤ z k) ≤ℤ (m.unit *ℤ m.unit *ℤ x.cc)
    → form m.n x.pm (scaled_offset (s1 *ℤ r2) (s2 *ℤ r1) v w)
    ≤ℤ (((s1 *ℤ r2) *ℤ (s2 *ℤ r1) *ℤ m.unit) *ℤ ((s1 *ℤ r2) *ℤ (s2 *ℤ r1) *ℤ m.unit) *ℤ x.cc)
first-≤ m x s1 s2 r1 r2 y z v w e e' h =
    let k : ℤ = (s1 *ℤ r2) *ℤ (s2 *ℤ r1) in
    let a = form-same m.n x.pm (scaled_offset (s1 *ℤ r2) (s2 *ℤ r1) v w) (λ j. k *ℤ (y j -ℤ z j)) (λ j l. spread s1 s2 r1 r2 (y j) (z j) _ _ (e j l) (e' j l)) in
    let b = form-times m.n x.pm k (λ j. y j -ℤ z j) in
    bound k m.unit x.cc (form m.n x.pm (λ j. y j -ℤ z j)) (form m.n x.pm (scaled_offset (s1 *ℤ r2) (s2 *ℤ r1) v w)) (a ∙ b) (mul-mono (k *ℤ k) _ _ (square-≥ k) h)
  where
    spread : (s1 s2 r1 r2 y z v w : ℤ) → v ≡ r2 *ℤ (s1 *ℤ y) → w ≡ r1 *ℤ (s2 *ℤ z)
        → (s2 *ℤ r1) *ℤ v -ℤ (s1 *ℤ r2) *ℤ w ≡ ((s1 *ℤ r2) *ℤ (s2 *ℤ r1)) *ℤ (y -ℤ z)
    spread s1 s2 r1 r2 y z v w e e' = rw (e, e') (simp expand)

    bound : (s k r f v : ℤ) → v ≡ (s *ℤ s) *ℤ f → ((s *ℤ s) *ℤ f) ≤ℤ ((s *ℤ s) *ℤ (k *ℤ k *ℤ r)) → v ≤ℤ ((s *ℤ k) *ℤ (s *ℤ k) *ℤ r)
    bound s k r f v e h =
        let g : (s *ℤ k) *ℤ (s *ℤ k) *ℤ r ≡ (s *ℤ s) *ℤ (k *ℤ k *ℤ r) = simp expand in
        rw (e, g) h

-- the runs stay close at every place of their common fine tick
pair-≤ : (m : System) (x : CertificateData) → Holds m x → pos 0 <ℤ m.unit → (y z : Vector) (v w : Run)
    → IsCertifiedStart m x y → IsCertifiedStart m x z → IsLegitimate m x.q y v → IsLegitimate m x.q z w
    → (t : ℕ) → t ≤ v.last * w.refinement → t ≤ w.last * v.refinement
    → form m.n x.pm (scaled_offset (pos v.scale *ℤ pos w.refinement) (pos w.scale *ℤ pos v.refinement) (fine_states w.refinement v.states t) (fine_states v.refinement w.states t))
    ≤ℤ (((pos v.scale *ℤ pos w.refinement) *ℤ (pos w.scale *ℤ pos v.refinement) *ℤ m.unit) *ℤ ((pos v.scale *ℤ pos w.refinement) *ℤ (pos w.scale *ℤ pos v.refinement) *ℤ m.unit) *ℤ x.cc)
pair-≤ m x holds unit> y z v w certified_y certified_z run_v run_w zero h_v h_w =
    let scaled_difference = apart-≤ m x holds y z certified_y certified_z in
    first-≤ m x (pos v.scale) (pos w.scale) (pos v.refinement) (pos w.refinement) y z (fine_states w.refinement v.states 0) (fine_states v.refinement w.states 0)
    (λ j h. fine-at w.refinement v.states 0 0 run_w.refined (omega arith) j ∙ ap (λ (n : ℤ). pos w.refinement *ℤ n) (run_v.starts j h))
    (λ j h. fine-at v.refinement w.states 0 0 run_v.refined (omega arith) j ∙ ap (λ (n : ℤ). pos v.refinement *ℤ n) (run_w.starts j h))
    scaled_difference
pair-≤ m x holds unit> y z v w certified_y certified_z run_v run_w (suc t) h_v h_w =
    let steps_v = fine-steps m x holds unit> y v run_v (certified-≤ m x holds y certified_y) w.refinement run_w.refined in
    let steps_w = fine-steps m x holds unit> z w run_w (certified-≤ m x holds z certified_z) v.refinement run_v.refined in
    pair-step m x holds unit> (pos v.scale *ℤ pos w.refinement) (pos w.scale *ℤ pos v.refinement) (pos v.refinement *ℤ pos w.refinement)
    (omega (arith, ints)) (omega (arith, ints)) (mul-> (pos v.refinement) (pos w.refinement) (positive_pos v.refinement run_v.refined) (positive_pos w.refinement run_w.refined))
    (fine_states w.refinement v.states t) (fine_states w.refinement v.states (suc t)) (fine_levels w.refinement v.levels t)
    (fine_states v.refinement w.states t) (fine_states v.refinement w.states (suc t)) (fine_levels v.refinement w.levels t)
    (λ j l. steps_v.moves t j (omega arith) l)
    (λ j l. ap (λ (r : ℤ). r *ℤ (fine_states v.refinement w.states (suc t) j -ℤ fine_states v.refinement w.states t j)) (*ℤ_comm (pos v.refinement) (pos w.refinement)) ∙ steps_w.moves t j (omega arith) l)
    (λ j l. steps_v.misses t j (omega arith) l)
    (λ j l. steps_w.misses t j (omega arith) l)
    (pair-≤ m x holds unit> y z v w certified_y certified_z run_v run_w t (omega arith) (omega arith))

-- the common factor of both sides goes away
common-≤ : (m : System) (x : CertificateData) (s1 s2 r1 r2 : ℤ) (a b v w : Vector) → pos 0 <ℤ r1 → pos 0 <ℤ r2
    → ((j : ℕ) → v j ≡ r2 *ℤ a j)
    → ((j : ℕ) → w j ≡ r1 *ℤ b j)
    → form m.n x.pm (scaled_offset (s1 *ℤ r2) (s2 *ℤ r1) v w)
    ≤ℤ (((s1 *ℤ r2) *ℤ (s2 *ℤ r1) *ℤ m.unit) *ℤ ((s1 *ℤ r2) *ℤ (s2 *ℤ r1) *ℤ m.unit) *ℤ x.cc)
    → form m.n x.pm (λ j. s2 *ℤ a j -ℤ s1 *ℤ b j) ≤ℤ ((s1 *ℤ s2 *ℤ m.unit) *ℤ (s1 *ℤ s2 *ℤ m.unit) *ℤ x.cc)
common-≤ m x s1 s2 r1 r2 a b v w r1> r2> e e' below =
    let k : ℤ = r1 *ℤ r2 in
    let k> = mul-> r1 r2 r1> r2> in
    let d : Vector = λ j. s2 *ℤ a j -ℤ s1 *ℤ b j in
    let f = form-same m.n x.pm (scaled_offset (s1 *ℤ r2) (s2 *ℤ r1) v w) (λ j. k *ℤ d j) (λ j l. gather s1 s2 r1 r2 (a j) (b j) _ _ (e j) (e' j)) in
    let g = form-times m.n x.pm k d in
    mul-cancel (k *ℤ k) (form m.n x.pm d) _ (mul-> k k k> k>) (bound s1 s2 r1 r2 m.unit x.cc _ _ (f ∙ g) below)
  where
    gather : (s1 s2 r1 r2 a b v w : ℤ) → v ≡ r2 *ℤ a → w ≡ r1 *ℤ b
        → (s2 *ℤ r1) *ℤ v -ℤ (s1 *ℤ r2) *ℤ w ≡ (r1 *ℤ r2) *ℤ (s2 *ℤ a -ℤ s1 *ℤ b)
    gather s1 s2 r1 r2 a b v w e e' = rw (e, e') (simp expand)

    bound : (s1 s2 r1 r2 k c v f : ℤ) → v ≡ f
        → v ≤ℤ (((s1 *ℤ r2) *ℤ (s2 *ℤ r1) *ℤ k) *ℤ ((s1 *ℤ r2) *ℤ (s2 *ℤ r1) *ℤ k) *ℤ c)
        → f ≤ℤ (((r1 *ℤ r2) *ℤ (r1 *ℤ r2)) *ℤ ((s1 *ℤ s2 *ℤ k) *ℤ (s1 *ℤ s2 *ℤ k) *ℤ c))
    bound s1 s2 r1 r2 k c v f e h =
        let g : ((r1 *ℤ r2) *ℤ (r1 *ℤ r2)) *ℤ ((s1 *ℤ s2 *ℤ k) *ℤ (s1 *ℤ s2 *ℤ k) *ℤ c) ≡ ((s1 *ℤ r2) *ℤ (s2 *ℤ r1) *ℤ k) *ℤ ((s1 *ℤ r2) *ℤ (s2 *ℤ r1) *ℤ k) *ℤ c = simp expand in
        rw (← e, g) h

-- at a common tick the difference is in the certified ellipsoid
pub inside-≤ : (m : System) (x : CertificateData) → Holds m x → pos 0 <ℤ m.unit → (y z : Vector) (v w : Run)
    → IsCertifiedStart m x y → IsCertifiedStart m x z → IsLegitimate m x.q y v → IsLegitimate m x.q z w
    → (i k : ℕ) → i ≤ v.last → k ≤ w.last → IsCommonTick v w i k → IsInside m x v w i k
inside-≤ m x holds unit> y z v w certified_y certified_z run_v run_w i k i≤ k≤ common =
    let below = pair-≤ m x holds unit> y z v w certified_y certified_z run_v run_w (i * w.refinement)
    (mul-le-mul_right w.refinement i≤) (rw common (mul-le-mul_right v.refinement k≤)) in
    common-≤ m x (pos v.scale) (pos w.scale) (pos v.refinement) (pos w.refinement) (v.states i) (w.states k)
    (fine_states w.refinement v.states (i * w.refinement)) (fine_states v.refinement w.states (i * w.refinement))
    (positive_pos v.refinement run_v.refined) (positive_pos w.refinement run_w.refined)
    (λ j. fine-at w.refinement v.states (i * w.refinement) i run_w.refined refl j)
    (λ j. fine-at v.refinement w.states (i * w.refinement) k run_v.refined common j)
    below
