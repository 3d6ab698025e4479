use Rattle.qss_order2.proofs.Common.{◌*ℤ◌, ◌*◌, ◌^◌, ◌≡◌, ◌≤◌, abs_of, int_at, pos, sum_over, take}
use Rattle.qss_order2.proofs.order2_rises.is_rise_change_steep.Given as goal

-- the sum so far, which each entry changes by at most 2 ^ 94
abbrev pub invariant-loop-entry : goal.invariant-loop-entry
invariant-loop-entry l = record {
  so_far : pos l.sum ≡ sum_over (λ entry. abs_of (entry.coef *ℤ int_at l.changes entry.var))
      (take l.entry-index l.entries);
  bound : l.sum ≤ l.entry-index * 2 ^ 94;
}
