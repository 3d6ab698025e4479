use Rattle.qss_states.proofs.Common.{◌^◌, ◌≡◌, ◌≤◌, excess, take}
use Rattle.std.proofs.Common.{sum_by}
use Rattle.qss_states.proofs.safe_bounds.greatest_excess_sum.Given as goal

-- the sum so far, at most 2 ^ 44
abbrev pub invariant-loop-product : goal.invariant-loop-product
invariant-loop-product l = record {
  so_far : l.sum ≡ sum_by (excess l.level_bits l.bound) (take l.product-index l.products);
  few : l.sum ≤ 2 ^ 44;
}
