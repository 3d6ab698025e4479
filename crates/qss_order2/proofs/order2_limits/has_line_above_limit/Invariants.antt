use Rattle.qss_order2.proofs.Common.{ℕ, ◌<◌, get_or, int_at, IsLineWithin, place_in}
use Rattle.qss_order2.proofs.order2_limits.has_line_above_limit.Given as goal

-- none so far
abbrev pub invariant-loop-state : goal.invariant-loop-state
invariant-loop-state l = (k : ℕ) → k < l.state-index →
    IsLineWithin l.fn.bound (place_in l.q.places.items (get_or l.list k 0))
    (int_at l.q.changes.items (get_or l.list k 0)) l.tick
