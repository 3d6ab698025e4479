use Rattle.qss_states.proofs.Common
use Common.{ℕ, ◌<◌, ◌≡◌, exceeds_row_limits, false, int_at, length, row_at, state_count, weight_at}
use Rattle.qss_states.proofs.kept_weights.weigh_kept_within_limit.Given as goal

-- the rows so far exceed no limit, and have their absolute row sums
abbrev pub invariant-loop-row : goal.invariant-loop-row
invariant-loop-row l = record {
  own : (k : ℕ) → k < l.row → int_at l.weights k ≡ weight_at l.m k l.levels l.d;
  light : (k : ℕ) → k < l.row → exceeds_row_limits l.m l.levels l.d (row_at l.m k) ≡ false;
  as_many : length l.weights ≡ state_count l.m;
}
