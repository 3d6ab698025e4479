use Rattle.qss_machine.proofs.Common
use Common.{ℕ, ◌*◌, ◌+◌, ◌<◌, ◌^◌, ◌≡◌, ◌≤◌, get_or, length, Product, products_of, take}
use Rattle.std.proofs.Common.{unsigned_abs}
use Rattle.qss_machine.proofs.slope_rows.sum_slope_products_halving.Given as goal

-- the sum over the products so far, of which those before the first of the state add nothing
abbrev pub invariant-loop-product : goal.invariant-loop-product
invariant-loop-product l = record {
  so_far : l.sum ≡ products_of (take (l.from + l.product-index) l.products) l.first l.discretes l.state;
  bound : unsigned_abs l.sum ≤ (l.from + l.product-index) * 2 ^ 87;
  least : (k : ℕ) (d : Product) → l.from ≤ k → k < length l.products → l.state ≤ (get_or l.products k d).state;
}
