use Rattle.mu_affine.proofs.Common.{◌*◌, ◌^◌, ◌≡◌, ◌≤◌, sum_by, take}
use Rattle.std.proofs.Common.{unsigned_abs}
use Rattle.mu_affine.proofs.rounded_form.sum_of_sizes.Given as goal

-- the sum so far, to which each entry adds at most 2 ^ 63
abbrev pub invariant-loop-entry : goal.invariant-loop-entry
invariant-loop-entry l = record {
  so_far : l.sum ≡ sum_by (λ e. unsigned_abs e.coef) (take l.entry-index l.entries);
  bound : l.sum ≤ l.entry-index * 2 ^ 63;
}
