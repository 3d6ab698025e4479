use Rattle.mu_num.proofs.Common.{ℕ, ◌*◌, ◌-◌, ◌<◌, ◌^◌, ◌≤◌}
use Rattle.mu_num.proofs.root.find_root_up.Given as goal

abbrev pub invariant-loop-low : goal.invariant-loop-low
invariant-loop-low l = (l.low ≤ l.high) × (l.high ≤ 2 ^ 63) × (l.v ≤ l.high * l.high) × ((m : ℕ) → m < l.low → m * m < l.v)

abbrev pub decreases-loop-low : goal.decreases-loop-low
decreases-loop-low l = l.high - l.low
