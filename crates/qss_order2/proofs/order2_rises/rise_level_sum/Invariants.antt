use Rattle.qss_order2.proofs.Common.{◌*ℤ◌, ◌*◌, ◌^◌, ◌≡◌, ◌≤◌, int_at, sum_over, take, unsigned_abs}
use Rattle.qss_order2.proofs.order2_rises.rise_level_sum.Given as goal

-- the sum so far, which each entry changes by at most 2 ^ 94
abbrev pub invariant-loop-entry : goal.invariant-loop-entry
invariant-loop-entry l = record {
  so_far : l.sum ≡ sum_over (λ entry. entry.coef *ℤ int_at l.levels entry.var)
      (take l.entry-index l.entries);
  bound : unsigned_abs l.sum ≤ l.entry-index * 2 ^ 94;
}
