use Rattle.qss_states.proofs.Common.{◌*◌, ◌^◌, ◌≡◌, ◌≤◌, take}
use Rattle.std.proofs.Common.{sum_by, unsigned_abs}
use Rattle.qss_states.proofs.safe_bounds.size_sum_of_entries.Given as goal

-- the sum so far, to which each entry adds at most 2 ^ 44
abbrev pub invariant-loop-entry : goal.invariant-loop-entry
invariant-loop-entry l = record {
  so_far : l.sum ≡ sum_by (λ e. unsigned_abs e.coef) (take l.entry-index l.entries);
  bound : l.sum ≤ l.entry-index * 2 ^ 44;
}
