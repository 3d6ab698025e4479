use Rattle.cert_check.proofs.Common.{◌*◌, ◌^◌, ◌≡◌, ◌≤◌, sum_over, take, unsigned_abs}
use Rattle.cert_check.proofs.StartRows.{term_of}
use Rattle.cert_check.proofs.start_rows.slope_at_zero_levels.Given as goal

-- the sum so far, which each entry changes by at most 2 ^ 87
abbrev pub invariant-loop-entry : goal.invariant-loop-entry
invariant-loop-entry l = record {
  so_far : l.sum ≡ sum_over (term_of l.m) (take l.entry-index l.row.entries);
  bound : unsigned_abs l.sum ≤ l.entry-index * 2 ^ 87;
}
