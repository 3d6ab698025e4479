-- Whether the sums of a place are in range is decided.
use Rattle.cert_check.proofs.Common
use Common.{ℕ, ℤ, ◌*ℤ◌, ◌*◌, ◌+◌, ◌<◌, ◌^◌, ◌≡◌, ◌≤ℤ◌, ◌≤◌, ◌⊎◌, arith, Bool, Bound, BoundParts}
use Common.{cases_lt, centre_disturbance, centre_slope, CentreGain, CentreSum, CertificateData}
use Common.{Decay, DecayParts, DecayProducts, Decides-int_eq, Distance, false, FirstStart}
use Common.{Inequality, inl, inr, int_eq, int_lt, is_same_below, IsFormInRange, IsPartInRange}
use Common.{IsPlaceInRange, IsRowInRange, level_error, level_range, matrix_of, pair_disturbance}
use Common.{PairGain, PairSum, pos, product, Quantum, Reach, refl, scaled_offset, SecondStart}
use Common.{Share, SignC, SignE, SignH1, SignH2, SignLambda, SignMu, SignP, SignR, SignS}
use Common.{SignSigmaC, SignSigmaR, SignZ, Slope, StartsApart, suc, sym, Symmetric, System, Table}
use Common.{times, true, unsigned_abs, Vector, weight, zero}
use Rattle.mu_num.proofs.Tests.{int_lt-false, int_lt-no}
use Rattle.cert_matrix.specs.Matrix.{IsInRange}
use Rattle.cert_check.specs.Inequalities.{weighted_level_error}
use Rattle.cert_check.specs.Ranges.{IsProductInRange, IsSquareInRange, IsSumBoundInRange}
use Rattle.cert_check.specs.Ranges.{IsSlopeInRange, IsWeightedRestInRange, IsWidthSumInRange}
use Rattle.cert_check.specs.Ranges.{IsCentreGainInRange, IsPairGainInRange, IsSlopeSidesInRange}
use Rattle.cert_check.specs.Ranges.{IsCentreSidesInRange, IsPairSidesInRange, IsShareInRange}
use Rattle.cert_check.specs.Ranges.{IsDecayPartInRange, ArePartsInRange, IsStageInRange}
use Rattle.cert_check.specs.Ranges.{IsGapInRange, factor_of, root_of}
use Rattle.cert_check.specs.declared.inequality_sides.Stage.{Stage}
use Rattle.cert_check.specs.declared.inequality_sides.Stage.TheVariants.{Bounded, Decaying}

-- a fact that holds or does not
abbrev pub IsDecided : Type 0 → Type 0
IsDecided P = P ⊎ (P → ⊥)

at-most : (a b : ℕ) → IsDecided (a ≤ b)
at-most a b = by (cases_lt b a)
  where
    by : (b < a) ⊎ (a ≤ b) → IsDecided (a ≤ b)
    by (inl above) = inr (λ h. omega arith)
    by (inr below) = inl below

int-at-most : (a b : ℤ) → IsDecided (a ≤ℤ b)
int-at-most a b = by (int_lt b a) refl
  where
    by : (t : Bool) → int_lt b a ≡ t → IsDecided (a ≤ℤ b)
    by false e = inl (int_lt-false b a e)
    by true e = inr (λ h. let fails = int_lt-no b a h in cc)

same-number : (a b : ℤ) → IsDecided (a ≡ b)
same-number a b = by (int_eq a b) refl
  where
    by : (t : Bool) → int_eq a b ≡ t → IsDecided (a ≡ b)
    by true e = inl ((Decides-int_eq a b).0 e)
    by false e = inr (λ h. let yes = (Decides-int_eq a b).1 h in cc)

both : {P Q R : Type 0} → (P → Q → R) → (R → P) → (R → Q) → IsDecided P → IsDecided Q → IsDecided R
both make first second (inl p) (inl q) = inl (make p q)
both make first second (inr fails) d = inr (λ r. fails (first r))
both make first second (inl p) (inr fails) = inr (λ r. fails (second r))

three : {P Q S R : Type 0} → (P → Q → S → R) → (R → P) → (R → Q) → (R → S) → IsDecided P → IsDecided Q → IsDecided S → IsDecided R
three make first second third (inl p) (inl q) (inl s) = inl (make p q s)
three make first second third (inr fails) d e = inr (λ r. fails (first r))
three make first second third (inl p) (inr fails) e = inr (λ r. fails (second r))
three make first second third (inl p) (inl q) (inr fails) = inr (λ r. fails (third r))

either : {P Q : Type 0} → IsDecided P → IsDecided Q → IsDecided (P ⊎ Q)
either (inl p) d = inl (inl p)
either (inr fails) (inl q) = inl (inr q)
either {P} {Q} (inr fails) (inr neither) = inr by
  where
    by : P ⊎ Q → ⊥
    by (inl p) = fails p
    by (inr q) = neither q

below : (n : ℕ) (P : ℕ → Type 0) → ((k : ℕ) → IsDecided (P k)) → IsDecided ((k : ℕ) → k < n → P k)
below zero P d = inl (λ k h. absurd (omega arith))
below (suc n) P d = by (below n P d) (d n)
  where
    by : IsDecided ((k : ℕ) → k < n → P k) → IsDecided (P n) → IsDecided ((k : ℕ) → k < suc n → P k)
    by (inr fails) e = inr (λ all. fails (λ k h. all k (omega arith)))
    by (inl before) (inr fails) = inr (λ all. fails (all n (omega arith)))
    by (inl before) (inl here) = inl all
      where
        all : (k : ℕ) → k < suc n → P k
        all k h = from (cases_lt k n)
          where
            from : (k < n) ⊎ (n ≤ k) → P k
            from (inl under) = before k under
            from (inr over) = let same : n ≡ k = omega arith in rw (sym same) here

in-range : (a b : ℤ) → IsDecided (IsProductInRange a b)
in-range a b = at-most (unsigned_abs a * unsigned_abs b) (2 ^ 126)

sum-in-range : (n : ℕ) (f g : Vector) → IsDecided (IsInRange n f g)
sum-in-range n f g = at-most (weight n f g) (2 ^ 126)

square : (p z : ℤ) → IsDecided (IsSquareInRange p z)
square p z = both (λ a b. record { square = a; weighted = b }) (λ r. r.square) (λ r. r.weighted) (in-range z z) (in-range p (z *ℤ z))

sum-bound : (n : ℕ) (lambda bound : ℤ) (numbers : Vector) → IsDecided (IsSumBoundInRange n lambda bound numbers)
sum-bound n lambda bound numbers = both (λ a b. record { left = a; right = b }) (λ r. r.left) (λ r. r.right) (in-range lambda bound) (sum-in-range n numbers (λ _. pos 1))

module _ (m : System) (x : CertificateData) where
  slope-bound : (j : ℕ) → IsDecided (IsSlopeInRange m x j)
  slope-bound j =
      three (λ a b c. record { rest = a; reaches = b; bound = c }) (λ r. r.rest) (λ r. r.reaches) (λ r. r.bound)
      (at-most _ (2 ^ 126)) (below m.n _ (λ k. at-most _ (2 ^ 126))) (at-most _ (2 ^ 126))

  weighted-rest : (i : ℕ) → IsDecided (IsWeightedRestInRange m x i)
  weighted-rest i =
      both (λ a b. record { rests = a; whole = b }) (λ r. r.rests) (λ r. r.whole) (below m.n _ (λ j. at-most _ (2 ^ 126))) (sum-in-range m.n (x.pm i) (centre_slope m x))

  width-sum : (i : ℕ) → IsDecided (IsWidthSumInRange m x i)
  width-sum i =
      three (λ a b c. record { entries = a; widths = b; whole = c }) (λ r. r.entries) (λ r. r.widths) (λ r. r.whole)
      (below m.n _ (λ j. sum-in-range m.n (x.pm i) (λ k. m.coef k j))) (below m.n _ (λ j. at-most _ (2 ^ 126))) (sum-in-range m.n (product m.n x.pm m.coef i) (level_error x))

  centre-bound : (i : ℕ) → IsDecided (IsCentreGainInRange m x i)
  centre-bound i =
      three (λ a b c. record { rest = a; widths = b; whole = c }) (λ r. r.rest) (λ r. r.widths) (λ r. r.whole)
      (weighted-rest i) (width-sum i) (at-most _ (2 ^ 126))

  pair-bound : (i : ℕ) → IsDecided (IsPairGainInRange m x i)
  pair-bound i = both (λ a b. record { widths = a; double = b }) (λ r. r.widths) (λ r. r.double) (width-sum i) (in-range (pos 2) (weighted_level_error m x i))

  slope-sides : (j : ℕ) → IsDecided (IsSlopeSidesInRange m x j)
  slope-sides j = both (λ a b. record { right = a; left = b }) (λ r. r.right) (λ r. r.left) (slope-bound j) (in-range m.unit (x.s j))

  centre-sides : (i : ℕ) → IsDecided (IsCentreSidesInRange m x i)
  centre-sides i =
      three (λ a b c. record { gain = a; left = b; right = c }) (λ r. r.gain) (λ r. r.left) (λ r. r.right)
      (centre-bound i) (in-range (x.mu i) (x.sigma_r i)) (in-range (centre_disturbance m x i) (centre_disturbance m x i))

  pair-sides : (i : ℕ) → IsDecided (IsPairSidesInRange m x i)
  pair-sides i =
      three (λ a b c. record { gain = a; left = b; right = c }) (λ r. r.gain) (λ r. r.left) (λ r. r.right)
      (pair-bound i) (in-range (x.mu i) (x.sigma_c i)) (in-range (pair_disturbance m x i) (pair_disturbance m x i))

  share-sides : (j : ℕ) → IsDecided (IsShareInRange m x j)
  share-sides j =
      three (λ a b c. record { reach = a; right = b; left = c }) (λ r. r.reach) (λ r. r.right) (λ r. r.left)
      (at-most _ (2 ^ 126)) (in-range m.share (level_range x j)) (in-range (pos 4096) (x.q j))

  decay-part : (i j : ℕ) → IsDecided (IsDecayPartInRange m x i j)
  decay-part i j =
      three (λ a b c. record { entry = a; turned = b; whole = c }) (λ r. r.entry) (λ r. r.turned) (λ r. r.whole)
      (sum-in-range m.n (x.pm i) (λ k. m.coef k j)) (sum-in-range m.n (x.pm j) (λ k. m.coef k i)) (at-most _ (2 ^ 126))

  part : (stage : Stage) (i j : ℕ) → IsDecided (IsPartInRange m x stage i j)
  part Bounded i j = at-most _ (2 ^ 126)
  part Decaying i j = decay-part i j

  parts : (stage : Stage) (i : ℕ) → IsDecided (ArePartsInRange m x stage i)
  parts stage i = below m.n (λ j. IsPartInRange m x stage i j) (λ j. part stage i j)

  row : (h : ℤ) (t g : Table) (i : ℕ) → IsDecided (IsRowInRange m.n h t g i)
  row h t g i = both (λ a b. record { entries = a; sizes = b }) (λ r. r.entries) (λ r. r.sizes) (below m.n _ (λ j. at-most _ (2 ^ 126))) (int-at-most _ (pos (2 ^ 126)))

  stage-row : (stage : Stage) (i : ℕ) → IsDecided (IsStageInRange m x stage i)
  stage-row stage i =
      both (λ a b. record { parts = a; row = b }) (λ r. r.parts) (λ r. r.row) (parts stage i) (row (factor_of x stage) (matrix_of m x stage) (root_of x stage) i)

  form-sums : (t : Table) (y : Vector) → IsDecided (IsFormInRange m.n t y)
  form-sums t y =
      both (λ a b. record { rows = a; whole = b }) (λ r. r.rows) (λ r. r.whole) (below m.n (λ i. IsInRange m.n (t i) y) (λ i. sum-in-range m.n (t i) y)) (sum-in-range m.n y (times m.n t y))

  gap-parts : (start : Vector) (factor : ℤ) (base : Vector) → IsDecided ((k : ℕ) → k < m.n → unsigned_abs (start k) + unsigned_abs factor * unsigned_abs (base k) ≤ 2 ^ 126)
  gap-parts start factor base = below m.n (λ k. unsigned_abs (start k) + unsigned_abs factor * unsigned_abs (base k) ≤ 2 ^ 126) (λ k. at-most _ (2 ^ 126))

  gap-sums : (start : Vector) (factor : ℤ) (base : Vector) (bound : ℤ) → IsDecided (IsGapInRange m x start factor base bound)
  gap-sums start factor base bound =
      both {Q = IsFormInRange m.n x.pm (scaled_offset start factor base) × IsProductInRange m.unit m.unit × IsProductInRange (m.unit *ℤ m.unit) bound}
      (λ a b. record { parts = a; form = b.0; square = b.1; right = b.2 }) (λ r. r.parts) (λ r. (r.form, r.square, r.right)) (gap-parts start factor base)
      (three (λ a b c. (a, b, c)) (λ r. r.0) (λ r. r.1) (λ r. r.2) (form-sums x.pm (scaled_offset start factor base)) (in-range m.unit m.unit) (in-range (m.unit *ℤ m.unit) bound))

  bool-true : (t : Bool) → IsDecided (t ≡ true)
  bool-true true = inl refl
  bool-true false = inr (λ e. cc)

  pub place-decided : (i : Inequality) (k : ℕ) → IsDecided (IsPlaceInRange m x i k)
  place-decided SignP k = inl tt
  place-decided SignMu k = inl tt
  place-decided SignLambda k = inl tt
  place-decided SignH1 k = inl tt
  place-decided SignH2 k = inl tt
  place-decided SignR k = inl tt
  place-decided SignZ k = inl tt
  place-decided SignS k = inl tt
  place-decided SignSigmaR k = inl tt
  place-decided SignC k = inl tt
  place-decided SignSigmaC k = inl tt
  place-decided SignE k = inl tt
  place-decided Symmetric k = inl tt
  place-decided BoundParts k = parts Bounded k
  place-decided Bound k = stage-row Bounded k
  place-decided DecayProducts k = below m.n _ (λ j. sum-in-range m.n (x.pm k) (λ h. m.coef h j))
  place-decided DecayParts k = parts Decaying k
  place-decided Decay k = stage-row Decaying k
  place-decided FirstStart k = gap-sums x.start1 m.unit x.c x.r
  place-decided SecondStart k = gap-sums x.start2 m.unit x.c x.r
  place-decided StartsApart k = either (bool-true (is_same_below m.n x.start1 x.start2)) (gap-sums x.start1 (pos 1) x.start2 x.cc)
  place-decided Reach k = square (x.p k) (x.z k)
  place-decided Slope k = slope-sides k
  place-decided CentreGain k = centre-sides k
  place-decided CentreSum k = sum-bound m.n x.lambda x.r x.sigma_r
  place-decided PairGain k = pair-sides k
  place-decided PairSum k = sum-bound m.n x.lambda x.cc x.sigma_c
  place-decided Distance k = square (x.p k) (x.e k)
  place-decided Quantum k = inl tt
  place-decided Share k = either (same-number m.share (pos 0)) (share-sides k)
