use Rattle.qss_states.proofs.Common.{ℕ, ◌<◌, ◌≡◌, int_at, length, state_count, weight_at}
use Rattle.qss_states.proofs.kept_weights.weigh_all_kept_rows.Given as goal

-- the absolute row sums of the rows so far
abbrev pub invariant-loop-row : goal.invariant-loop-row
invariant-loop-row l = record {
  own : (k : ℕ) → k < l.row → int_at l.weights k ≡ weight_at l.m k l.levels l.d;
  as_many : length l.weights ≡ state_count l.m;
}
