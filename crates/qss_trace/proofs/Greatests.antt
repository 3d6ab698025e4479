-- Of two traces there is one first place at which the form of their difference is greatest, or one first place at which a sum is out of range.
use Rattle.qss_trace.proofs.Common
use Common.{ℕ, ℤ, ◌*ℤ◌, ◌*◌, ◌+◌, ◌<◌, ◌==◌, ◌^◌, ◌∙◌, ◌≡◌, ◌≤◌, ◌⊎◌, add-one, ap, AreCommon, arith}
use Common.{Bool, both_units, bound_of, cases_lt, count_of, difference, entry_at, eqb-false}
use Common.{eqb-true, false, inl, inr, ints, IsBoundInRange, IsPairInRange, IsSearched, List, pos}
use Common.{refl, Search, states_of, subst, suc, sym, table, times, Trace, true, unsigned_abs}
use Common.{value_of, zero}
use Rattle.cert_matrix.specs.Form.{Table, Vector}
use Rattle.cert_matrix.specs.Matrix.{weight, IsInRange, IsFormInRange}
use Rattle.qss_trace.specs.declared.trace_comparison.Greatest.{Greatest}
use Rattle.qss_trace.specs.declared.trace_comparison.Greatest.TheVariants.{Found, Range}
use Rattle.qss_trace.specs.CommonTicks.{AreGreatest, AreFirstOut, IsGreatest}
use Rattle.qss_trace.specs.TraceLaws.{ComparisonIsUnique}
use Rattle.qss_trace.proofs.Searching.{one-partner, search-none, search-skip, search-more}
use Rattle.qss_trace.proofs.Searching.{search-found}

-- ---- one

module _ (p : List (List ℤ)) (t1 t2 : Trace) where
  -- common places with the same first one have the same second one
  second-same : (i1 i2 j1 j2 : ℕ) → AreCommon t1 t2 i1 i2 → AreCommon t1 t2 j1 j2 → i1 ≡ j1 → i2 ≡ j2
  second-same i1 i2 j1 j2 a b e = let P : ℕ → Type 0 = λ i. AreCommon t1 t2 i j2 in one-partner t1 t2 i1 i2 j2 a (subst P (sym e) b)

  no-earlier : (i1 i2 j1 j2 : ℕ) → AreGreatest p t1 t2 i1 i2 → AreGreatest p t1 t2 j1 j2 → i1 < j1 → ⊥
  no-earlier i1 i2 j1 j2 a b l =
      let less = b.first i1 i2 a.common l in
      let most = a.most j1 j2 b.common in
      omega (arith, ints, less, most)

  greatest-same : (i1 i2 j1 j2 : ℕ) → AreGreatest p t1 t2 i1 i2 → AreGreatest p t1 t2 j1 j2 → i1 ≡ j1
  greatest-same i1 i2 j1 j2 a b = by (cases_lt i1 j1) (cases_lt j1 i1)
    where
      by : (i1 < j1) ⊎ (j1 ≤ i1) → (j1 < i1) ⊎ (i1 ≤ j1) → i1 ≡ j1
      by (inl l) m = absurd (no-earlier i1 i2 j1 j2 a b l)
      by (inr l) (inl m) = absurd (no-earlier j1 j2 i1 i2 b a m)
      by (inr l) (inr m) = omega arith

  out-same : (i1 i2 j1 j2 : ℕ) → AreFirstOut p t1 t2 i1 i2 → AreFirstOut p t1 t2 j1 j2 → i1 ≡ j1
  out-same i1 i2 j1 j2 a b = by (cases_lt i1 j1) (cases_lt j1 i1)
    where
      by : (i1 < j1) ⊎ (j1 ≤ i1) → (j1 < i1) ⊎ (i1 ≤ j1) → i1 ≡ j1
      by (inl l) m = absurd (a.out (b.before i1 i2 a.common l))
      by (inr l) (inl m) = absurd (b.out (a.before j1 j2 b.common m))
      by (inr l) (inr m) = omega arith

one-greatest : (p : List (List ℤ)) (c k : ℤ) (t1 t2 : Trace) (g h : Greatest) → IsGreatest p c k t1 t2 g → IsGreatest p c k t1 t2 h → g ≡ h
one-greatest p c k t1 t2 (Found n i1 i2 v b) (Found n' j1 j2 v' b') x y =
    let first = greatest-same p t1 t2 i1 i2 j1 j2 x.greatest y.greatest in
    let second = second-same p t1 t2 i1 i2 j1 j2 x.greatest.common y.greatest.common first in
    let count : n ≡ n' = x.count ∙ sym y.count in
    let value : v ≡ v' = x.value_is ∙ (λ i. value_of p t1 t2 (first i) (second i)) ∙ sym y.value_is in
    let bound : b ≡ b' = x.bound_is ∙ sym y.bound_is in
    cc
one-greatest p c k t1 t2 (Found n i1 i2 v b) (Range j1 j2) x (inl (e, f, fails)) = absurd (fails x.bound_in_range)
one-greatest p c k t1 t2 (Found n i1 i2 v b) (Range j1 j2) x (inr (holds, out)) = absurd (out.out (x.pairs_in_range j1 j2 out.common))
one-greatest p c k t1 t2 (Range i1 i2) (Found n j1 j2 v b) (inl (e, f, fails)) y = absurd (fails y.bound_in_range)
one-greatest p c k t1 t2 (Range i1 i2) (Found n j1 j2 v b) (inr (holds, out)) y = absurd (out.out (y.pairs_in_range i1 i2 out.common))
one-greatest p c k t1 t2 (Range i1 i2) (Range j1 j2) (inl (e, f, fails)) (inl (e', f', fails')) =
    let first : i1 ≡ j1 = e ∙ sym e' in
    let second : i2 ≡ j2 = f ∙ sym f' in
    cc
one-greatest p c k t1 t2 (Range i1 i2) (Range j1 j2) (inl (e, f, fails)) (inr (holds, out)) = absurd (fails holds)
one-greatest p c k t1 t2 (Range i1 i2) (Range j1 j2) (inr (holds, out)) (inl (e, f, fails)) = absurd (fails holds)
one-greatest p c k t1 t2 (Range i1 i2) (Range j1 j2) (inr (holds, a)) (inr (holds', b)) =
    let first = out-same p t1 t2 i1 i2 j1 j2 a b in
    let second = second-same p t1 t2 i1 i2 j1 j2 a.common b.common first in
    cc

-- ---- what is decided

abbrev IsDecided : Type 0 → Type 0
IsDecided P = P ⊎ (P → ⊥)

at-most : (a b : ℕ) → IsDecided (a ≤ b)
at-most a b = by (cases_lt b a)
  where
    by : (b < a) ⊎ (a ≤ b) → IsDecided (a ≤ b)
    by (inl above) = inr (λ h. omega arith)
    by (inr under) = inl under

both : {P Q R : Type 0} → (P → Q → R) → (R → P) → (R → Q) → IsDecided P → IsDecided Q → IsDecided R
both make first second (inl a) (inl b) = inl (make a b)
both make first second (inr fails) d = inr (λ r. fails (first r))
both make first second (inl a) (inr fails) = inr (λ r. fails (second r))

all-below : (n : ℕ) (P : ℕ → Type 0) → ((k : ℕ) → IsDecided (P k)) → IsDecided ((k : ℕ) → k < n → P k)
all-below zero P d = inl (λ k h. absurd (omega arith))
all-below (suc n) P d = by (all-below n P d) (d n)
  where
    by : IsDecided ((k : ℕ) → k < n → P k) → IsDecided (P n) → IsDecided ((k : ℕ) → k < suc n → P k)
    by (inr fails) e = inr (λ all. fails (λ k h. all k (omega arith)))
    by (inl before) (inr fails) = inr (λ all. fails (all n (omega arith)))
    by (inl before) (inl here) = inl (λ k h. at k (cases_lt k n) h)
      where
        at : (k : ℕ) → (k < n) ⊎ (n ≤ k) → k < suc n → P k
        at k (inl l) h = before k l
        at k (inr l) h = let same : n ≡ k = omega arith in subst P same here

form-decided : (n : ℕ) (m : Table) (y : Vector) → IsDecided (IsFormInRange n m y)
form-decided n m y =
    both (λ a b. record { rows = a; whole = b }) (λ r. r.rows) (λ r. r.whole) (all-below n (λ i. IsInRange n (m i) y) (λ i. at-most (weight n (m i) y) (2 ^ 126)))
    (at-most (weight n y (times n m y)) (2 ^ 126))

pair-decided : (p : List (List ℤ)) (t1 t2 : Trace) (i1 i2 : ℕ) → IsDecided (IsPairInRange p t1 t2 i1 i2)
pair-decided p t1 t2 i1 i2 =
    both (λ a b. record { parts = a; form = b }) (λ r. r.parts) (λ r. r.form)
    (all-below t1.n (λ j. t2.scale * unsigned_abs (entry_at (states_of t1) i1 j) + t1.scale * unsigned_abs (entry_at (states_of t2) i2 j) ≤ 2 ^ 126) (λ j. at-most _ (2 ^ 126)))
    (form-decided t1.n (table p) (difference t1 t2 i1 i2))

bound-decided : (c k : ℤ) (t1 t2 : Trace) → IsDecided (IsBoundInRange c k t1 t2)
bound-decided c k t1 t2 =
    let s = at-most (unsigned_abs (pos t1.scale) * unsigned_abs (pos t2.scale)) (2 ^ 126) in
    let u = at-most (unsigned_abs (pos t1.scale *ℤ pos t2.scale) * unsigned_abs k) (2 ^ 126) in
    let q = at-most (unsigned_abs (both_units t1 t2 k) * unsigned_abs (both_units t1 t2 k)) (2 ^ 126) in
    let w = at-most (unsigned_abs (both_units t1 t2 k *ℤ both_units t1 t2 k) * unsigned_abs c) (2 ^ 126) in
    by s u q w
  where
    by : IsDecided (unsigned_abs (pos t1.scale) * unsigned_abs (pos t2.scale) ≤ 2 ^ 126) → IsDecided (unsigned_abs (pos t1.scale *ℤ pos t2.scale) * unsigned_abs k ≤ 2 ^ 126)
        → IsDecided (unsigned_abs (both_units t1 t2 k) * unsigned_abs (both_units t1 t2 k) ≤ 2 ^ 126)
        → IsDecided (unsigned_abs (both_units t1 t2 k *ℤ both_units t1 t2 k) * unsigned_abs c ≤ 2 ^ 126) → IsDecided (IsBoundInRange c k t1 t2)
    by (inl a) (inl b) (inl d) (inl e) = inl (record { scales = a; unit = b; square = d; whole = e })
    by (inr fails) b d e = inr (λ r. fails r.scales)
    by (inl a) (inr fails) d e = inr (λ r. fails r.unit)
    by (inl a) (inl b) (inr fails) e = inr (λ r. fails r.square)
    by (inl a) (inl b) (inl d) (inr fails) = inr (λ r. fails r.whole)

-- a place has a partner, or none
partner : (t1 t2 : Trace) (i1 : ℕ) → i1 < count_of t1 → ((i2 : ℕ) × AreCommon t1 t2 i1 i2) ⊎ ((i2 : ℕ) → AreCommon t1 t2 i1 i2 → ⊥)
partner t1 t2 i1 h = from (scan (count_of t2) (omega arith))
  where
    scan : (n : ℕ) → n ≤ count_of t2 → ((i2 : ℕ) × AreCommon t1 t2 i1 i2) ⊎ ((i2 : ℕ) → i2 < n → AreCommon t1 t2 i1 i2 → ⊥)
    scan zero le = inr (λ i2 l common. omega arith)
    scan (suc n) le = by (scan n (omega arith)) (i1 * t2.refine == n * t1.refine) refl
      where
        by : ((i2 : ℕ) × AreCommon t1 t2 i1 i2) ⊎ ((i2 : ℕ) → i2 < n → AreCommon t1 t2 i1 i2 → ⊥) → (b : Bool) → (i1 * t2.refine == n * t1.refine) ≡ b
            → ((i2 : ℕ) × AreCommon t1 t2 i1 i2) ⊎ ((i2 : ℕ) → i2 < suc n → AreCommon t1 t2 i1 i2 → ⊥)
        by (inl found) b e = inl found
        by (inr none) true e = inl (n, record { first = h; second = omega arith; tick = eqb-true (i1 * t2.refine) (n * t1.refine) e })
        by (inr none) false e = inr (λ i2 l common. at i2 (cases_lt i2 n) l common)
          where
            at : (i2 : ℕ) → (i2 < n) ⊎ (n ≤ i2) → i2 < suc n → AreCommon t1 t2 i1 i2 → ⊥
            at i2 (inl l) h2 common = none i2 l common
            at i2 (inr l) h2 common =
                let same : i2 ≡ n = omega arith in
                eqb-false (i1 * t2.refine) (n * t1.refine) e (common.tick ∙ ap (λ i. i * t1.refine) same)

    from : ((i2 : ℕ) × AreCommon t1 t2 i1 i2) ⊎ ((i2 : ℕ) → i2 < count_of t2 → AreCommon t1 t2 i1 i2 → ⊥) → ((i2 : ℕ) × AreCommon t1 t2 i1 i2) ⊎ ((i2 : ℕ) → AreCommon t1 t2 i1 i2 → ⊥)
    from (inl found) = inl found
    from (inr none) = inr (λ i2 common. none i2 common.second common)

-- ---- some

module _ (p : List (List ℤ)) (t1 t2 : Trace) where
  abbrev Searched : ℕ → Type 0
  Searched n = ((s : Search) × IsSearched p t1 t2 n s) ⊎ ((i1 : ℕ) × (i2 : ℕ) × AreFirstOut p t1 t2 i1 i2)

  one-more : (n : ℕ) → n < count_of t1 → Searched n → Searched (n + 1)
  one-more n h (inr out) = inr out
  one-more n h (inl (s, found)) = by (partner t1 t2 n h)
    where
      at : (i2 : ℕ) → AreCommon t1 t2 n i2 → IsDecided (IsPairInRange p t1 t2 n i2) → Searched (n + 1)
      at i2 common (inl fits) = inl (_, search-more p t1 t2 n s found i2 common fits (value_of p t1 t2 n i2) refl)
      at i2 common (inr fails) = inr (n, i2, record { common = common; out = fails; before = λ j1 j2 other l. found.in_range j1 j2 other l })

      by : ((i2 : ℕ) × AreCommon t1 t2 n i2) ⊎ ((i2 : ℕ) → AreCommon t1 t2 n i2 → ⊥) → Searched (n + 1)
      by (inl (i2, common)) = at i2 common (pair-decided p t1 t2 n i2)
      by (inr none) = inl (s, search-skip p t1 t2 n s found h none)

  searched : (n : ℕ) → n ≤ count_of t1 → Searched n
  searched zero h = inl (_, search-none p t1 t2)
  searched (suc n) h = subst Searched (add-one n) (one-more n (omega arith) (searched n (omega arith)))

some-greatest : (p : List (List ℤ)) (c k : ℤ) (t1 t2 : Trace) → (g : Greatest) × IsGreatest p c k t1 t2 g
some-greatest p c k t1 t2 = by (bound-decided c k t1 t2) (searched p t1 t2 (count_of t1) (omega arith))
  where
    by : IsDecided (IsBoundInRange c k t1 t2) → Searched p t1 t2 (count_of t1) → (g : Greatest) × IsGreatest p c k t1 t2 g
    by (inr fails) s = (Range 0 0, inl (refl, refl, fails))
    by (inl holds) (inr (i1, i2, out)) = (Range i1 i2, inr (holds, out))
    by (inl holds) (inl (s, found)) = (Found s.common s.place1 s.place2 s.value (bound_of c k t1 t2), search-found p c k t1 t2 s (bound_of c k t1 t2) holds refl found)

pub greatests : ComparisonIsUnique
greatests = record { some = some-greatest; one = one-greatest }
