use Rattle.qss_own_traces.proofs.Common
use Common.{◌*◌, ◌+◌, ◌≡◌, abs_of, pos, table, unsigned_abs, vector, weight}
use Rattle.qss_own_traces.proofs.second_order_trace.row_sum.Given as goal

-- the sum so far is its own absolute row sum
abbrev pub invariant-loop-k : goal.invariant-loop-k
invariant-loop-k l = record {
  same : l.sum.total ≡ pos l.sum.weight;
  so_far : l.sum.weight ≡ unsigned_abs (vector l.a.constant l.row) * l.share + weight l.k (vector l.numbers) (λ i. abs_of (table l.a.coef l.row i));
}
