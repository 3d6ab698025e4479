-- A run on a finer tick.
use Rattle.cert_check.proofs.Common
use Common.{ℕ, ℤ, ◌*ℤ◌, ◌*◌, ◌+ℤ◌, ◌+◌, ◌-ℤ◌, ◌-◌, ◌/◌, ◌<ℤ◌, ◌<◌, ◌∙◌, ◌≡◌, ◌≤ℤ◌, ◌≤◌, ◌⊎◌, abs_of}
use Common.{add-mul, ap, ap₂, arith, cases_lt, CertificateData, expand, form, Holds, inl, inr, ints}
use Common.{level_error, mod-add-div', mul-add, mul-≥, one-mul, pos, refl, size-scale, suc, sym}
use Common.{System, times, times-scale, Vector}
use Rattle.std.proofs.Common.{◌%◌}
use Rattle.std.proofs.Math.Nat.{div-lt_iff_lt-mul, mod-lt}
use Rattle.std.proofs.lemmas.Nat.{div-mul-add, mod-mul-add}
use Rattle.cert_check.proofs.Run.{Run, IsLegitimate}
use Rattle.cert_check.proofs.Basin.{basin, miss-≤, positive_pos}

-- the state h of q parts of the way from place i to the next, times q
abbrev part_way : ℕ → (ℕ → Vector) → ℕ → ℕ → Vector
part_way q states i h j = pos q *ℤ states i j +ℤ pos h *ℤ (states (suc i) j -ℤ states i j)

-- the states and levels of a run on a tick q times finer
abbrev pub fine_states : ℕ → (ℕ → Vector) → ℕ → Vector
fine_states q states t = part_way q states (t / q) (t % q)

abbrev pub fine_levels : ℕ → (ℕ → Vector) → ℕ → Vector
fine_levels q levels t j = pos q *ℤ levels (t / q) j

part_way-at : (q : ℕ) (states : ℕ → Vector) (t i h : ℕ) → h < q → t ≡ i * q + h → (j : ℕ) → fine_states q states t j ≡ part_way q states i h j
part_way-at q states t i h l e j =
    let d : t / q ≡ i = ap (λ (n : ℕ). n / q) e ∙ div-mul-add i q h l in
    let r : t % q ≡ h = ap (λ (n : ℕ). n % q) e ∙ mod-mul-add i q h l in
    ap₂ (λ (i h : ℕ). part_way q states i h j) d r

-- a place of the coarse tick
pub fine-at : (q : ℕ) (states : ℕ → Vector) (t i : ℕ) → 0 < q → t ≡ i * q → (j : ℕ) → fine_states q states t j ≡ pos q *ℤ states i j
fine-at q states t i l e j =
    part_way-at q states t i 0 l (omega arith) j ∙ none (pos q *ℤ states i j) (states (suc i) j -ℤ states i j)
  where
    none : (a b : ℤ) → a +ℤ pos 0 *ℤ b ≡ a
    none a b = omega (arith, ints)

-- the next place of the fine tick
fine-suc : (q : ℕ) (states : ℕ → Vector) (t : ℕ) → 0 < q → (j : ℕ)
    → fine_states q states (suc t) j ≡ part_way q states (t / q) (suc (t % q)) j
fine-suc q states t l j = by (cases_lt (suc (t % q)) q)
  where
    whole : (a b : ℤ) → pos q *ℤ b +ℤ pos 0 ≡ pos q *ℤ a +ℤ pos q *ℤ (b -ℤ a)
    whole a b = simp expand (omega (arith, ints))

    by : (suc (t % q) < q) ⊎ (q ≤ suc (t % q)) → fine_states q states (suc t) j ≡ part_way q states (t / q) (suc (t % q)) j
    by (inl h) = part_way-at q states (suc t) (t / q) (suc (t % q)) h (omega (arith, mod-add-div' t q)) j
    by (inr h) =
        let full : suc (t % q) ≡ q = omega arith in
        let e : suc t ≡ suc (t / q) * q = omega (arith, mod-add-div' t q) in
        fine-at q states (suc t) (suc (t / q)) l e j
        ∙ spread (pos q) (states (t / q) j) (states (suc (t / q)) j)
        ∙ ap (λ (n : ℕ). pos q *ℤ states (t / q) j +ℤ pos n *ℤ (states (suc (t / q)) j -ℤ states (t / q) j)) (sym full)
      where
        spread : (q a b : ℤ) → q *ℤ b ≡ q *ℤ a +ℤ q *ℤ (b -ℤ a)
        spread q a b = simp expand (omega (arith, ints))

-- each state moves by its slope and ends near its level
pub record Steps (m : System) (x : CertificateData) (s r : ℤ) (last : ℕ) (states levels : ℕ → Vector) : Type 0 where
  pub moves : (t j : ℕ) → t < last → j < m.n → r *ℤ (states (suc t) j -ℤ states t j) ≡ times m.n m.coef (levels t) j +ℤ s *ℤ m.constant j
  pub misses : (t j : ℕ) → t < last → j < m.n → abs_of (m.unit *ℤ levels t j -ℤ states (suc t) j) ≤ℤ (s *ℤ m.unit *ℤ level_error x j)

move_part : (r q a b h g next this f t s c : ℤ) → g ≡ h +ℤ pos 1 → next ≡ q *ℤ a +ℤ g *ℤ (b -ℤ a) → this ≡ q *ℤ a +ℤ h *ℤ (b -ℤ a)
    → r *ℤ (b -ℤ a) ≡ t +ℤ s *ℤ c → f ≡ q *ℤ t → (r *ℤ q) *ℤ (next -ℤ this) ≡ f +ℤ (s *ℤ q) *ℤ c
move_part r q a b h g next this f t s c g-is next-is this-is moves f-is =
    let scaled : q *ℤ (r *ℤ (b -ℤ a)) ≡ q *ℤ (t +ℤ s *ℤ c) = ap (λ (z : ℤ). q *ℤ z) moves in
    let e = simp expand at scaled in
    rw (next-is, this-is, f-is, g-is) (simp (one-mul, expand) (omega (arith, ints)))

miss_part : (k q a b d g next v level bound : ℤ) → pos 0 ≤ℤ d → pos 0 ≤ℤ g → d +ℤ g ≡ q → next ≡ q *ℤ a +ℤ g *ℤ (b -ℤ a) → v ≡ q *ℤ level
    → abs_of (k *ℤ level -ℤ a) ≤ℤ bound → abs_of (k *ℤ level -ℤ b) ≤ℤ bound → abs_of (k *ℤ v -ℤ next) ≤ℤ (q *ℤ bound)
miss_part k q a b d g next v level bound d≥ g≥ q-is next-is v-is near far =
    let e : k *ℤ v -ℤ next ≡ d *ℤ (k *ℤ level -ℤ a) +ℤ g *ℤ (k *ℤ level -ℤ b) = rw (next-is, v-is, ← q-is) (simp expand (omega (arith, ints))) in
    let u = size-scale d (k *ℤ level -ℤ a) bound d≥ near in
    let w = size-scale g (k *ℤ level -ℤ b) bound g≥ far in
    let b' : q *ℤ bound ≡ d *ℤ bound +ℤ g *ℤ bound = rw (← q-is) (add-mul d g bound) in
    rw (e, b') (omega (arith, ints))

pub scaled-≥ : (n : ℕ) (k : ℤ) → pos 0 <ℤ k → pos 0 ≤ℤ (pos n *ℤ k)
scaled-≥ n k k> =
    let n≥ : pos 0 ≤ℤ pos n = omega (arith, ints) in
    let k≥ : pos 0 ≤ℤ k = omega (arith, ints) in
    mul-≥ (pos n) k n≥ k≥

-- a legitimate run takes such steps on every finer tick
pub fine-steps : (m : System) (x : CertificateData) → Holds m x → pos 0 <ℤ m.unit → (start : Vector) (w : Run) → IsLegitimate m x.q start w
    → form m.n x.pm (λ k. start k -ℤ m.unit *ℤ x.c k) ≤ℤ (m.unit *ℤ m.unit *ℤ x.r)
    → (q : ℕ) → 0 < q → Steps m x (pos w.scale *ℤ pos q) (pos w.refinement *ℤ pos q) (w.last * q) (fine_states q w.states) (fine_levels q w.levels)
fine-steps m x holds unit> start w run below q q> = record {
  moves = λ t j l h.
      let i : ℕ = t / q in
      let i< : i < w.last = (div-lt_iff_lt-mul q>).1 l in
      move_part (pos w.refinement) (pos q) (w.states i j) (w.states (suc i) j) (pos (t % q)) (pos (suc (t % q)))
      (fine_states q w.states (suc t) j) (fine_states q w.states t j) (times m.n m.coef (fine_levels q w.levels t) j)
      (times m.n m.coef (w.levels i) j) (pos w.scale) (m.constant j)
      (omega (arith, ints)) (fine-suc q w.states t q> j) refl (run.moves i j i< h) (times-scale m.n m.coef (pos q) (w.levels i) j);
  misses = λ t j l h.
      let i : ℕ = t / q in
      let i< : i < w.last = (div-lt_iff_lt-mul q>).1 l in
      let rest : suc (t % q) ≤ q = mod-lt t q> in
      let inside = basin m x holds unit> start w run below i (omega arith) in
      let far = miss-≤ m x holds unit> (pos w.scale) (pos w.refinement) (positive_pos w.scale run.scaled) (positive_pos w.refinement run.refined)
      (w.states i) (w.states (suc i)) (w.levels i) inside (λ j l. run.near i j (omega arith) l) (λ j l. run.moves i j i< l) j h in
      let near = near_width (w.states i j) (m.unit *ℤ w.levels i j) (pos w.scale *ℤ m.unit) (x.q j) (x.s j) (scaled-≥ w.scale m.unit unit>) (holds.signs.s j h) (run.near i j (omega arith) h) in
      bound (pos w.scale) (pos q) m.unit (level_error x j) (m.unit *ℤ fine_levels q w.levels t j -ℤ fine_states q w.states (suc t) j)
      (miss_part m.unit (pos q) (w.states i j) (w.states (suc i) j) (pos (q - suc (t % q))) (pos (suc (t % q)))
      (fine_states q w.states (suc t) j) (fine_levels q w.levels t j) (w.levels i j) (pos w.scale *ℤ m.unit *ℤ level_error x j)
      (omega (arith, ints)) (omega (arith, ints)) (omega (arith, ints)) (fine-suc q w.states t q> j) refl near far);
}
  where
    near_width : (state level kappa q s : ℤ) → pos 0 ≤ℤ kappa → pos 0 ≤ℤ s → abs_of (state -ℤ level) ≤ℤ (kappa *ℤ q) → abs_of (level -ℤ state) ≤ℤ (kappa *ℤ (q +ℤ s))
    near_width state level kappa q s kappa≥ s≥ h = let p = mul-≥ kappa s kappa≥ s≥ in rw (mul-add kappa q s) (omega (arith, ints))

    bound : (s q k w v : ℤ) → abs_of v ≤ℤ (q *ℤ (s *ℤ k *ℤ w)) → abs_of v ≤ℤ ((s *ℤ q) *ℤ k *ℤ w)
    bound s q k w v h =
        let e : (s *ℤ q) *ℤ k *ℤ w ≡ q *ℤ (s *ℤ k *ℤ w) = simp expand in
        rw e h
