-- How many states the ticks of a span affect, one tick after another.
use Rattle.qss_run.proofs.Common
use Common.{[], ℕ, ℤ, ◌++◌, ◌+◌, ◌-◌, ◌∷◌, ◌≡◌, ◌≤◌, ap, AreEventFree, arith, Err, IsVisit}
use Common.{last_snapshot, length, List, Machine, None, Ok, Result, Snapshot, Some, touches_after}
use Common.{touches_at}
use Rattle.qss_events.proofs.Goings.{more_last}

-- more ticks affect no fewer states
touches_less : (m : Machine) (tick : ℕ) (w : Snapshot) (xs ys : List Snapshot) → touches_after m tick w xs None ≤ touches_after m tick w (xs ++ ys) None
touches_less m tick w [] ys = omega arith
touches_less m tick w (x ∷ xs) ys = omega (arith, touches_less m (tick + 1) x xs ys)

-- one tick more
pub touches_push : (m : Machine) (tick next : ℕ) (w : Snapshot) (xs : List Snapshot) (to : Snapshot) → next ≡ tick + length xs + 1 →
    touches_after m tick w (xs ++ to ∷ []) None ≡ touches_after m tick w xs None + touches_at m next (last_snapshot w xs) (Ok to)
touches_push m tick next w [] to e =
    let same : next ≡ tick + 1 = omega (arith, e) in
    omega (arith, ap (λ (t : ℕ). touches_at m t w (Ok to)) same)
touches_push m tick next w (x ∷ xs) to e = omega (arith, touches_push m (tick + 1) next x xs to (omega (arith, e)))

-- and an overflow
pub touches_over : (m : Machine) (tick next : ℕ) (w : Snapshot) (xs : List Snapshot) (var : ℕ) →
    touches_after m tick w xs (Some var) ≡ touches_after m tick w xs None + touches_at m next (last_snapshot w xs) (Err var)
touches_over m tick next w [] var = omega arith
touches_over m tick next w (x ∷ xs) var = omega (arith, touches_over m (tick + 1) next x xs var)

module _ (Rule : ℤ → ℤ → ℤ → ℤ → Type 0) (m : Machine) (from : ℕ) (w0 : Snapshot) (silent : List Snapshot) (tick : ℕ) (w : Snapshot) (are : AreEventFree Rule m from w0 silent tick w)
    (more : List Snapshot) (next : ℕ) (first before after : ℕ) (so_far : before ≤ first + touches_after m from w0 silent None) where
  -- moves of an event step after event-free ticks
  both : (result : Result Snapshot ℕ) → after ≤ before + touches_at m next (last_snapshot w more) result →
      after - first ≤ touches_after m from w0 (silent ++ more) None + touches_at m next (last_snapshot w0 (silent ++ more)) result
  both result here =
      omega (arith, so_far, here, touches_less m from w0 silent more, ap (λ (v : Snapshot). touches_at m next v result) (more_last Rule m from w0 silent tick w are more))

  pub touches_on : (to : Snapshot) → IsVisit Rule m from w0 (silent ++ more) next (Ok to) → after ≤ before + touches_at m next (last_snapshot w more) (Ok to) →
      after - first ≤ touches_after m from w0 ((silent ++ more) ++ to ∷ []) None
  touches_on to visit here = omega (arith, both (Ok to) here, touches_push m from next w0 (silent ++ more) to visit.is_next)

  pub touches_end : (var : ℕ) → after ≤ before + touches_at m next (last_snapshot w more) (Err var) → after - first ≤ touches_after m from w0 (silent ++ more) (Some var)
  touches_end var here = omega (arith, both (Err var) here, touches_over m from next w0 (silent ++ more) var)
