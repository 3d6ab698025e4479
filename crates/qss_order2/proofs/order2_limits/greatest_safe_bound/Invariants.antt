use Rattle.qss_order2.proofs.Common.{◌≤◌}
use Rattle.qss_order2.proofs.order2_limits.greatest_safe_bound.Given as goal

-- at most 50 bits are left to try
abbrev pub invariant-loop-bits : goal.invariant-loop-bits
invariant-loop-bits l = l.bits ≤ 50

abbrev pub decreases-loop-bits : goal.decreases-loop-bits
decreases-loop-bits l = l.bits
