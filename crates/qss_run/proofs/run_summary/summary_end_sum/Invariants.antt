use Rattle.qss_run.proofs.Common.{◌*◌, ◌^◌, ◌≡◌, ◌≤◌, end_sum, take}
use Rattle.std.proofs.Common.{unsigned_abs}
use Rattle.qss_run.proofs.run_summary.summary_end_sum.Given as goal

-- the sum so far, which each row changes by at most 2 ^ 63
abbrev pub invariant-loop-row : goal.invariant-loop-row
invariant-loop-row l = record {
  so_far : l.sum ≡ end_sum (take l.row-index l.rows);
  bound : unsigned_abs l.sum ≤ l.row-index * 2 ^ 63;
}
