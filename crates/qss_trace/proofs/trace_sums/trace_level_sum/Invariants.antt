use Rattle.qss_trace.proofs.Common
use Common.{◌*ℤ◌, ◌*◌, ◌^◌, ◌≡◌, ◌≤◌, sum_below, table, unsigned_abs, vector}
use Rattle.qss_trace.proofs.trace_sums.trace_level_sum.Given as goal

-- the sum so far, which each state changes by at most 2 ^ 108
abbrev pub invariant-loop-k : goal.invariant-loop-k
invariant-loop-k l = record {
  so_far : l.sum ≡ sum_below l.k (λ i. table l.a.coef l.j i *ℤ vector l.levels i);
  bound : unsigned_abs l.sum ≤ l.k * 2 ^ 108;
}
