use Rattle.qss_machine.proofs.Common
use Common.{◌*ℤ◌, ◌*◌, ◌++◌, ◌^◌, ◌≡◌, ◌≤◌, int_at, map, pos, sum_by, sum_over, take}
use Rattle.std.proofs.Common.{unsigned_abs}
use Rattle.qss_machine.proofs.form_values.sum_form_entries.Given as goal

-- the sum so far, at most the coefficients so far times the greatest value
abbrev pub invariant-loop-entry : goal.invariant-loop-entry
invariant-loop-entry l = record {
  so_far : l.sum ≡ sum_over (λ entry. entry.coef *ℤ int_at (l.states ++ (map (λ d. d *ℤ pos (2 ^ l.unit_bits)) l.discretes ++ map (λ d. d *ℤ pos (2 ^ l.unit_bits)) l.before)) entry.var) (take l.entry-index l.entries);
  bound : unsigned_abs l.sum ≤ sum_by (λ entry. unsigned_abs entry.coef) (take l.entry-index l.entries) * 2 ^ 88;
}
