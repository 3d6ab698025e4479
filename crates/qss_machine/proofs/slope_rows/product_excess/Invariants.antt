use Rattle.qss_machine.proofs.Common
use Common.{◌*ℤ◌, ◌*◌, ◌-ℤ◌, ◌^◌, ◌≡◌, ◌≤◌, abs_of, coefficient_of, int_at, length}
use Common.{mode_coefficient, sum_below}
use Rattle.std.proofs.Common.{unsigned_abs}
use Rattle.qss_machine.proofs.ProductStates.{AreBelow}
use Rattle.qss_machine.proofs.slope_rows.product_excess.Given as goal

-- the sum over the states so far, which each changes by at most 2 ^ 88
abbrev pub invariant-loop-product : goal.invariant-loop-product
invariant-loop-product l = record {
  so_far : l.sum ≡ sum_below l.past (λ i. (abs_of (mode_coefficient l.level_bits (length l.levels) l.row l.discretes i) -ℤ abs_of (coefficient_of l.row.entries i)) *ℤ abs_of (int_at l.levels i));
  bound : unsigned_abs l.sum ≤ l.past * 2 ^ 88;
  few : l.past ≤ length l.levels;
  below : AreBelow l.row.products l.product-index l.past;
}
