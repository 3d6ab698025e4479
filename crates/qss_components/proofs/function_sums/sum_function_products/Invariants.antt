use Rattle.qss_components.proofs.Common
use Common.{ℕ, ◌*◌, ◌+◌, ◌<◌, ◌^◌, ◌≡◌, ◌≤◌, get_or, input_discretes, length, Product, products_of}
use Common.{state_count, take}
use Rattle.std.proofs.Common.{unsigned_abs}
use Rattle.qss_components.proofs.function_sums.sum_function_products.Given as goal

-- the sum over the products so far, of which those before the first of the state add nothing
abbrev pub invariant-loop-product : goal.invariant-loop-product
invariant-loop-product l = record {
  so_far : l.sum ≡ products_of (take (l.from + l.product-index) l.products) (state_count l.m)
      (input_discretes l.m l.inputs) l.state;
  bound : unsigned_abs l.sum ≤ (l.from + l.product-index) * 2 ^ 87;
  least : (k : ℕ) (d : Product) → l.from ≤ k → k < length l.products → l.state ≤
      (get_or l.products k d).state;
}
