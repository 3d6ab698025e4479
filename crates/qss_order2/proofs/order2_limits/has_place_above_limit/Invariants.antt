use Rattle.qss_order2.proofs.Common.{ℕ, ◌<◌, ◌≤ℤ◌, abs_of, get_or, place_in}
use Rattle.qss_order2.proofs.order2_limits.has_place_above_limit.Given as goal

-- none so far
abbrev pub invariant-loop-state : goal.invariant-loop-state
invariant-loop-state l = (k : ℕ) → k < l.state-index →
    abs_of (place_in l.q.places.items (get_or l.list k 0)).level ≤ℤ l.fn.bound
