-- There is a verdict on each trace.
use Rattle.qss_trace.proofs.Common
use Common.{ℕ, ℤ, ◌+◌, ◌<◌, ◌≡◌, ◌≤ℤ◌, ◌≤◌, ◌⊎◌, arith, below_more, Bool, Broken, count_of}
use Common.{Decides-int_eq, Fact, false, HoldsAt, inl, inr, int_eq, int_le, ints, IsFoundAmong}
use Common.{IsFoundAt, IsMet, IsTakenAt, IsVerdict, left_of, Machine, Move, Near, None, number_of}
use Common.{Option, refl, right_of, Some, Start, suc, Trace, TraceVerdict, true, zero}
use Rattle.qss_trace.proofs.Found.{IsFirstOf, first-taken, found-first, found-near, HoldBelow}
use Rattle.qss_trace.proofs.Found.{all-hold, first-broken}
use Rattle.qss_trace.specs.declared.trace_checker.TraceVerdict.TheVariants as verdict

-- two sides satisfy a fact, or not
equal-or-not : (a b : ℤ) → (a ≡ b) ⊎ (a ≡ b → ⊥)
equal-or-not a b = by (int_eq a b) refl
  where
    by : (t : Bool) → int_eq a b ≡ t → (a ≡ b) ⊎ (a ≡ b → ⊥)
    by true e = inl ((Decides-int_eq a b).0 e)
    by false e = inr (λ same. absurd (let no = (Decides-int_eq a b).1 same in cc))

most-or-not : (a b : ℤ) → (a ≤ℤ b) ⊎ (a ≤ℤ b → ⊥)
most-or-not a b = by (int_le a b) refl
  where
    by : (t : Bool) → int_le a b ≡ t → (a ≤ℤ b) ⊎ (a ≤ℤ b → ⊥)
    by true e = inl (grind (arith, ints))
    by false e = inr (λ h. grind (arith, ints))

met-or-not : (fact : Fact) (a b : ℤ) → IsMet fact a b ⊎ (IsMet fact a b → ⊥)
met-or-not Start a b = equal-or-not a b
met-or-not Move a b = equal-or-not a b
met-or-not Near a b = most-or-not a b

module _ (m : Machine) (t : Trace) where
  -- the first of some states of which a fact fails at a place
  scan : (fact : Fact) (place k : ℕ) → IsTakenAt fact place → k ≤ t.n
      → ((j : ℕ) → j < k → HoldsAt m t fact place j) ⊎ ((broken : Broken) × IsFoundAmong m t fact place (Some broken))
  scan fact place zero there h = inl (λ j l. absurd (omega arith))
  scan fact place (suc k) there h = by (scan fact place k there (omega arith)) (met-or-not fact (left_of m t fact place k) (right_of m t fact place k))
    where
      by : ((j : ℕ) → j < k → HoldsAt m t fact place j) ⊎ ((broken : Broken) × IsFoundAmong m t fact place (Some broken)) → HoldsAt m t fact place k ⊎ (HoldsAt m t fact place k → ⊥)
          → ((j : ℕ) → j < suc k → HoldsAt m t fact place j) ⊎ ((broken : Broken) × IsFoundAmong m t fact place (Some broken))
      by (inr found) met = inr found
      by (inl before) (inl met) = inl (λ j l. below_more (HoldsAt m t fact place) k before met j (omega arith))
      by (inl before) (inr fails) =
          let broken : Broken = record { fact = fact; state = k; left = left_of m t fact place k; right = right_of m t fact place k } in
          inr (broken, (refl, record { state = omega arith; there = there; left_is = refl; right_is = refl; fails = fails }, before))

  among : (fact : Fact) (place : ℕ) → IsTakenAt fact place → (o : Option Broken) × IsFoundAmong m t fact place o
  among fact place there = by (scan fact place t.n there (omega arith))
    where
      by : ((j : ℕ) → j < t.n → HoldsAt m t fact place j) ⊎ ((broken : Broken) × IsFoundAmong m t fact place (Some broken)) → (o : Option Broken) × IsFoundAmong m t fact place o
      by (inl all) = (None, all)
      by (inr found) = (Some found.0, found.1)

  -- the first fact that fails at a place
  place-by : (first : Fact) (place : ℕ) → IsFirstOf first place → (o : Option Broken) × IsFoundAt m t place o
  place-by first place is = by (among first place (first-taken first place is)) (among Near place tt)
    where
      by : (o : Option Broken) × IsFoundAmong m t first place o → (o : Option Broken) × IsFoundAmong m t Near place o → (o : Option Broken) × IsFoundAt m t place o
      by (Some broken, found) near = (Some broken, found-first m t first place broken is found)
      by (None, holds) near = (near.0, found-near m t first place near.0 is holds near.1)

  at-place : (place : ℕ) → (o : Option Broken) × IsFoundAt m t place o
  at-place zero = place-by Start zero refl
  at-place (suc place) = place-by Move (suc place) (omega arith)

  -- the verdict, where the facts of the first places hold
  verdict-from : (k : ℕ) → k ≤ count_of t → HoldBelow m t k ⊎ ((v : TraceVerdict) × IsVerdict m t v)
  verdict-from zero h = inl (λ i l. absurd (omega arith))
  verdict-from (suc k) h = by (verdict-from k (omega arith)) (at-place k)
    where
      by : HoldBelow m t k ⊎ ((v : TraceVerdict) × IsVerdict m t v) → (o : Option Broken) × IsFoundAt m t k o → HoldBelow m t (suc k) ⊎ ((v : TraceVerdict) × IsVerdict m t v)
      by (inr found) here = inr found
      by (inl before) (None, holds) = inl (λ i l. below_more (λ i. IsFoundAt m t i None) k before holds i (omega arith))
      by (inl before) (Some broken, found) =
          inr (verdict.Broken k (number_of broken.fact) (broken.state + 1) broken.left broken.right, (broken.fact, broken.state, refl, refl, first-broken m t k broken (omega arith) before found))

pub some-verdict : (m : Machine) (t : Trace) → (v : TraceVerdict) × IsVerdict m t v
some-verdict m t = by (verdict-from m t (count_of t) (omega arith))
  where
    by : HoldBelow m t (count_of t) ⊎ ((v : TraceVerdict) × IsVerdict m t v) → (v : TraceVerdict) × IsVerdict m t v
    by (inl all) = (verdict.Legitimate, all-hold m t all)
    by (inr found) = found
