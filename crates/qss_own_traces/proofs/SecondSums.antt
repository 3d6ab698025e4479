-- Sums along the rows of a machine's affine system.
use Rattle.qss_own_traces.proofs.Common
use Common.{ℕ, ℤ, ◌*ℤ◌, ◌*◌, ◌+ℤ◌, ◌+◌, ◌-ℤ◌, ◌<◌, ◌∙◌, ◌≡◌, abs_of, ap, arith, int_at, ints}
use Common.{level_unit, List, Machine, pos, quanta, refl, rise_at, row_weight, start_coefficient}
use Common.{start_constant_part, state_count, suc, sum_below, sym, system_weight, table}
use Common.{unsigned_abs, vector, weight, zero}
use Rattle.std.proofs.lemmas.Int.{unsigned_abs-mul}
use Rattle.std.proofs.Math.IntN.{pos-*ℤ-pos}
use Rattle.std.proofs.Math.Nat.{mul_comm}
use Rattle.mu_num.proofs.Integers.{mul-add}
use Rattle.mu_num.proofs.Sums.{sum_below-same}
use Rattle.cert_matrix.specs.Form.{times}
use Rattle.cert_check.specs.declared.affine_data.AffineSystem.{AffineSystem}
use Rattle.cert_check.specs.Inequalities.{System}
use Rattle.cert_check.specs.Systems.{start_matrix, start_drives}
use Rattle.cert_check.proofs.Join.{entry-at, drive-at, slope-same}
use Rattle.qss_own_traces.specs.TraceSystems.{Fits}

-- the numbers of the system
pub unit_is : (m : Machine) (a : AffineSystem) → Fits m a → a.unit ≡ level_unit m
unit_is m a fits = ap (λ (s : System). s.unit) fits.same

pub quantum_is : (m : Machine) (a : AffineSystem) (j : ℕ) → Fits m a → vector a.quantum j ≡ int_at (quanta m) j
quantum_is m a j fits = ap (λ (s : System). s.quantum j) fits.same

coefficient_is : (m : Machine) (a : AffineSystem) (j i : ℕ) → Fits m a → j < state_count m → i < state_count m → table a.coef j i ≡ start_coefficient m j i
coefficient_is m a j i fits h l = ap (λ (s : System). s.coef j i) fits.same ∙ entry-at m j i h l

drive_is : (m : Machine) (a : AffineSystem) (j : ℕ) → Fits m a → j < state_count m → vector a.constant j ≡ start_constant_part m j
drive_is m a j fits h = ap (λ (s : System). s.constant j) fits.same ∙ drive-at m j h

-- the rise of a state
pub rise_same : (m : Machine) (a : AffineSystem) (levels : List ℤ) (j : ℕ) (r : ℤ) → Fits m a → j < state_count m →
    r ≡ times a.n (table a.coef) (vector levels) j +ℤ pos 64 *ℤ vector a.constant j → r ≡ rise_at m j levels
rise_same m a levels j r fits h is =
    let count : a.n ≡ state_count m = fits.same_size in
    let coef : table a.coef ≡ table (start_matrix m) = ap (λ (s : System). s.coef) fits.same in
    let constant : vector a.constant ≡ vector (start_drives m) = ap (λ (s : System). s.constant) fits.same in
    is ∙ (λ i. times (count i) (coef i) (vector levels) j +ℤ pos 64 *ℤ constant i j) ∙ sym (slope-same m 64 j levels h)

-- a state less its level and the level's change
pub spread : (x u l d : ℤ) → x -ℤ u *ℤ l -ℤ u *ℤ d ≡ x -ℤ u *ℤ (l +ℤ d)
spread x u l d = let e = mul-add u l d in omega (arith, ints, e)

-- ---- absolute row sums

-- one more number
pub same_more : (s s' x y c : ℤ) (w w' : ℕ) → s ≡ pos w → y ≡ abs_of c → s' ≡ s +ℤ abs_of x *ℤ y → w' ≡ w + unsigned_abs x * unsigned_abs y → s' ≡ pos w'
same_more s s' x y c w w' same of_y total weighs =
    let product : abs_of x *ℤ abs_of c ≡ pos (unsigned_abs x * unsigned_abs c) = pos-*ℤ-pos (unsigned_abs x) (unsigned_abs c) in
    let whole : s' ≡ s +ℤ abs_of x *ℤ abs_of c = total ∙ ap (λ (z : ℤ). s +ℤ abs_of x *ℤ z) of_y in
    let count : w' ≡ w + unsigned_abs x * unsigned_abs c = weighs ∙ ap (λ (z : ℤ). w + unsigned_abs x * unsigned_abs z) of_y in
    omega (arith, ints, same, whole, count, product)

sizes_are : (n : ℕ) (f g : ℕ → ℤ) → sum_below n (λ i. abs_of (f i *ℤ g i)) ≡ pos (weight n g (λ i. abs_of (f i)))
sizes_are zero f g = refl
sizes_are (suc n) f g =
    let before = sizes_are n f g in
    let here : unsigned_abs (f n *ℤ g n) ≡ unsigned_abs (g n) * unsigned_abs (f n) = unsigned_abs-mul (f n) (g n) ∙ mul_comm (unsigned_abs (f n)) (unsigned_abs (g n)) in
    by _ _ _ _ before here
  where
    by : (s : ℤ) (w p q : ℕ) → s ≡ pos w → p ≡ q → s +ℤ pos p ≡ pos (w + q)
    by s w p q e f = omega (arith, ints)

-- a row's absolute row sum
pub weight_is : (m : Machine) (a : AffineSystem) (share : ℕ) (numbers : List ℤ) (j : ℕ) → Fits m a → j < state_count m → row_weight m share numbers j ≡ pos (system_weight a share numbers j)
weight_is m a share numbers j fits h =
    let n = state_count m in
    let coefficients : sum_below n (λ i. abs_of (start_coefficient m j i *ℤ int_at numbers i)) ≡ sum_below n (λ i. abs_of (table a.coef j i *ℤ int_at numbers i)) =
    sum_below-same n _ _ (λ i l. ap (λ (z : ℤ). abs_of (z *ℤ int_at numbers i)) (sym (coefficient_is m a j i fits h l))) in
    let sums : sum_below n (λ i. abs_of (start_coefficient m j i *ℤ int_at numbers i)) ≡ pos (weight a.n (vector numbers) (λ i. abs_of (table a.coef j i))) =
    coefficients ∙ sizes_are n (table a.coef j) (int_at numbers) ∙ ap (λ (k : ℕ). pos (weight k (vector numbers) (λ i. abs_of (table a.coef j i)))) (sym fits.same_size) in
    let drive : pos share *ℤ abs_of (start_constant_part m j) ≡ pos (unsigned_abs (vector a.constant j) * share) =
    ap (λ (z : ℤ). pos share *ℤ abs_of z) (sym (drive_is m a j fits h)) ∙ pos-*ℤ-pos share (unsigned_abs (vector a.constant j)) ∙ ap pos (mul_comm share (unsigned_abs (vector a.constant j))) in
    by _ _ _ _ sums drive
  where
    by : (s d : ℤ) (w b : ℕ) → s ≡ pos w → d ≡ pos b → s +ℤ d ≡ pos (b + w)
    by s d w b e f = omega (arith, ints)
