use Rattle.qss_machine.proofs.Common.{◌*◌, ◌^◌, ◌≡◌, ◌≤◌, coefficient_of, take}
use Rattle.std.proofs.Common.{unsigned_abs}
use Rattle.qss_machine.proofs.slope_rows.entry_coefficient.Given as goal

-- the sum so far, which each entry changes by less than 2 ^ 63
abbrev pub invariant-loop-entry : goal.invariant-loop-entry
invariant-loop-entry l = record {
  so_far : l.sum ≡ coefficient_of (take l.entry-index l.entries) l.var;
  bound : unsigned_abs l.sum ≤ l.entry-index * 2 ^ 63;
}
