-- The excesses so far are no more than all of them.
use Rattle.qss_states.proofs.Common
use Common.{ℕ, ◌+◌, ◌∙◌, ap, arith, excess, List, pos, Product, sum_by, take_all}
use Rattle.std.proofs.lemmas.List.Sums.{sum_by_more, sum_by-take-le}
use Rattle.qss_states.proofs.safe_bounds.greatest_excess_sum.Goals as goal

-- a product of nothing
abbrev no_product : Product
no_product = record { state = 0; discrete = 0; coef = pos 0 }

pub loop-product-preserved : goal.loop-product-preserved
loop-product-preserved c =
    let excesses : Product → ℕ = excess c.args.level_bits c.args.bound in
    let products : List Product = c.args.products.now in
    let i : ℕ = c.loop-product.product-index in
    record { so_far = omega (arith, sum_by_more excesses products i no_product c.loop-product-test.true, c.greatest_excess-sum.ensures.value, c.loop-product.invariant.so_far); few = omega arith }

pub returns-then-sum-gt-MODE_LIMIT : goal.returns-then-sum-gt-MODE_LIMIT
returns-then-sum-gt-MODE_LIMIT c =
    let excesses : Product → ℕ = excess c.args.level_bits c.args.bound in
    let products : List Product = c.args.products.now in
    let i : ℕ = c.loop-product.product-index in
    omega (
      arith,
      sum_by_more excesses products i no_product c.loop-product-test.true,
      sum_by-take-le excesses products (i + 1),
      c.greatest_excess-sum.ensures.value,
      c.loop-product.invariant.so_far,
    )

pub returns : goal.returns
returns c = (
  c.loop-product.invariant.so_far ∙ ap (sum_by (excess c.args.level_bits c.args.bound)) (take_all c.loop-product.product-index c.args.products.now c.loop-product-test.false),
  c.loop-product.invariant.few,
)
