use Rattle.qss_machine.proofs.Common.{◌*ℤ◌, ◌*◌, ◌++◌, ◌^◌, ◌≡◌, ◌≤◌, int_at, sum_over, take}
use Rattle.std.proofs.Common.{unsigned_abs}
use Rattle.qss_machine.proofs.slope_rows.sum_slope_entries.Given as goal

-- the sum so far, which each entry changes by at most 2 ^ 87
abbrev pub invariant-loop-entry : goal.invariant-loop-entry
invariant-loop-entry l = record {
  so_far : l.sum ≡ sum_over (λ entry. entry.coef *ℤ int_at (l.first ++ l.second) entry.var) (take l.entry-index l.entries);
  bound : unsigned_abs l.sum ≤ l.entry-index * 2 ^ 87;
}
