use Rattle.mu_num.proofs.Common.{◌-◌, ◌<ℤ◌, ◌<◌, ◌≤ℤ◌, ◌≤◌, curve_at}
use Rattle.mu_num.proofs.curves.search_rising_curve.Given as goal

abbrev pub invariant-loop-above : goal.invariant-loop-above
invariant-loop-above l =
    (l.low ≤ l.below) × (l.below < l.above) × (l.above ≤ l.high) × (curve_at l.c l.b l.a l.below <ℤ l.bound) × (l.bound ≤ℤ curve_at l.c l.b l.a l.above)

abbrev pub decreases-loop-above : goal.decreases-loop-above
decreases-loop-above l = l.above - l.below
