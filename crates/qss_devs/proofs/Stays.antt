-- A test up to its next change is as at its first tick; so is a crossing's up to its transition.
use Rattle.qss_devs.proofs.Common
use Common.{ℕ, ◌+◌, ◌-◌, ◌<◌, ◌∙◌, ◌≡◌, ◌≢◌, ◌≤◌, ap, arith, Bool, cases_lt, compares, DetectorView}
use Common.{holds_at, inl, inr, IsCrossingNext, IsFirstAfter, no_ticks, Some, suc, tick_limit, zero}
use Rattle.qss_events.proofs.Silence.{same_flag}

-- a test that changes only after a tick has its first result up to that tick
module _ (test : ℕ → Bool) (own : Bool) (from to : ℕ) (in_time : to ≤ tick_limit)
    (here : test from ≡ own)
    (later : (next : ℕ) → IsFirstAfter (λ t. test t ≢ own) from next → to < next) where
  same_through : (n k : ℕ) → k ≤ n → from + n ≤ to → test (from + k) ≡ own
  same_through zero k le below = let z : from + k ≡ from = omega (arith, le) in ap test z ∙ here
  same_through (suc n) k le below = elim (cases_lt k (suc n)) [
    | inl less ↦ same_through n k (omega (arith, less)) (omega (arith, below))
    | inr past ↦
        let same : from + k ≡ from + suc n = omega (arith, past, le) in
        ap test same ∙ last (λ i less reach. same_through n i less reach)
  ]
    where
      last : ((i : ℕ) → i ≤ n → from + n ≤ to → test (from + i) ≡ own) → test (from + suc n) ≡ own
      last sooner = same_flag (test (from + suc n)) own (λ ne.
          let stays : (u : ℕ) → from < u → u < from + suc n → ¬ (test u ≢ own) = λ u after before change.
          let place : u ≡ from + (u - from) = omega (arith, after) in
          change (ap test place ∙ sooner (u - from) (omega (arith, before, after)) (omega (arith, below))) in
          let first : IsFirstAfter (λ t. test t ≢ own) from (from + suc n) =
          record { later = omega arith; in_time = omega (arith, below, in_time); holds = ne; first = stays } in
          omega (arith, later (from + suc n) first, below))

  pub same_up_to : from ≤ to → test to ≡ own
  same_up_to early =
      let same : to ≡ from + (to - from) = omega (arith, early) in
      ap test same ∙ same_through (to - from) (to - from) (omega arith) (omega (arith, early))

pub holds_still : (w : DetectorView) (tick : ℕ) → w.tick ≤ tick → tick ≤ tick_limit →
    ((next : ℕ) → IsCrossingNext w (Some next) → tick < next) → holds_at w tick ≡ compares w.rel w.value
holds_still w tick early in_time later =
    same_up_to (holds_at w) (compares w.rel w.value) w.tick tick in_time
    (ap (compares w.rel) (no_ticks w.value w.speed w.tick)) later early
