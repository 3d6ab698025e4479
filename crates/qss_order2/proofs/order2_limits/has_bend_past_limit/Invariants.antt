use Rattle.qss_order2.proofs.Common.{ℕ, ◌<◌, ◌≡◌, exceeds, false, get_or, rise_change_weight}
use Rattle.qss_order2.proofs.order2_limits.has_bend_past_limit.Given as goal

-- none so far
abbrev pub invariant-loop-state : goal.invariant-loop-state
invariant-loop-state l = (k : ℕ) → k < l.state-index →
    exceeds 94 (rise_change_weight l.f.machine l.changes (get_or l.list k 0)) ≡ false
