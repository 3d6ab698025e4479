use Rattle.qss_machine.proofs.Common
use Common.{◌*ℤ◌, ◌*◌, ◌++◌, ◌^◌, ◌≡◌, ◌≤◌, abs_of, int_at, sum_over, take}
use Rattle.std.proofs.Common.{unsigned_abs}
use Rattle.qss_machine.proofs.slope_rows.slope_entry_weight.Given as goal

-- the sum so far, which each entry changes by at most 2 ^ 87
abbrev pub invariant-loop-entry : goal.invariant-loop-entry
invariant-loop-entry l = record {
  so_far : l.sum ≡ sum_over (λ entry. abs_of (entry.coef *ℤ int_at (l.first ++ l.second) entry.var)) (take l.entry-index l.entries);
  bound : unsigned_abs l.sum ≤ l.entry-index * 2 ^ 87;
}
