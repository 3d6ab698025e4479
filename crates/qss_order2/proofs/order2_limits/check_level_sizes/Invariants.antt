use Rattle.qss_order2.proofs.Common.{ℕ, ◌<◌, ◌≡◌, exceeds, false, int_at}
use Rattle.qss_order2.proofs.order2_limits.check_level_sizes.Given as goal

-- none so far
abbrev pub invariant-loop-j : goal.invariant-loop-j
invariant-loop-j l = (k : ℕ) → k < l.j → exceeds 49 (int_at l.levels k) ≡ false
