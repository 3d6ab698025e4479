use Rattle.cert_check.proofs.Common
use Common.{◌*◌, ◌^◌, ◌≡◌, ◌≤◌, start_discretes, state_count, take, unsigned_abs}
use Rattle.qss_machine.specs.Slopes.{products_of}
use Rattle.cert_check.proofs.start_rows.sum_start_products.Given as goal

-- the sum so far, which each product changes by at most 2 ^ 87
abbrev pub invariant-loop-product : goal.invariant-loop-product
invariant-loop-product l = record {
  so_far : l.sum ≡ products_of (take l.product-index l.row.products)
      (state_count l.m) (start_discretes l.m) l.state;
  bound : unsigned_abs l.sum ≤ l.product-index * 2 ^ 87;
}
