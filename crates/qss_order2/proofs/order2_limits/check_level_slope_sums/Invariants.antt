use Rattle.qss_order2.proofs.Common.{ℕ, ◌<◌, ◌≡◌, exceeds, false, rise_change_weight}
use Rattle.qss_order2.proofs.order2_limits.check_level_slope_sums.Given as goal

-- none so far
abbrev pub invariant-loop-row : goal.invariant-loop-row
invariant-loop-row l = (k : ℕ) → k < l.row → exceeds 94 (rise_change_weight l.f.machine l.changes k)
    ≡ false
