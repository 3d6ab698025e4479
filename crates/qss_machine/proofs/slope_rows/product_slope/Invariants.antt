use Rattle.qss_machine.proofs.Common
use Common.{◌*ℤ◌, ◌*◌, ◌^◌, ◌≡◌, ◌≤◌, int_at, length, nearest_of, pos, products_of, sum_below}
use Rattle.std.proofs.Common.{unsigned_abs}
use Rattle.qss_machine.proofs.ProductStates.{AreBelow}
use Rattle.qss_machine.proofs.slope_rows.product_slope.Given as goal

-- the sum over the states so far, which each changes by at most 2 ^ 88
abbrev pub invariant-loop-product : goal.invariant-loop-product
invariant-loop-product l = record {
  so_far : l.sum ≡ sum_below l.past (λ i. nearest_of (products_of l.row.products (length l.levels) l.discretes i) (pos (2 ^ l.level_bits)) *ℤ int_at l.levels i);
  bound : unsigned_abs l.sum ≤ l.past * 2 ^ 88;
  few : l.past ≤ length l.levels;
  below : AreBelow l.row.products l.product-index l.past;
}
