-- The states between those of products contribute 0.
use Rattle.qss_machine.proofs.Common
use Common.{ℕ, ℤ, ◌*ℤ◌, ◌*◌, ◌+◌, ◌<◌, ◌^◌, ◌∙◌, ◌≡◌, ◌≤◌, ap, arith, get_or, int_at, length, List}
use Common.{nearest_of, pos, Product, products_of, sum_below, sym, to_z, w128, zero-*ℤ}
use Rattle.std.proofs.Common.{unsigned_abs}
use Rattle.qss_machine.proofs.Loops.{below_step}
use Rattle.qss_machine.proofs.ProductStates.{IsFree, free_between, free_behind, below_one_more}
use Rattle.qss_machine.proofs.ProductStates.{none_rounded, sum_past}
use Rattle.qss_machine.proofs.slope_rows.product_slope.Goals as goal

-- a state's rounded products times its level
abbrev product_part : ℕ → List Product → List ℤ → List ℤ → ℕ → ℤ
product_part bits products levels discretes i = nearest_of (products_of products (length levels) discretes i) (pos (2 ^ bits)) *ℤ int_at levels i

no_part : (bits : ℕ) (products : List Product) (levels discretes : List ℤ) (i : ℕ) → IsFree products i → product_part bits products levels discretes i ≡ pos 0
no_part bits products levels discretes i free = ap (λ z. z *ℤ int_at levels i) (none_rounded products bits (length levels) discretes i free) ∙ zero-*ℤ (int_at levels i)

pub loop-product-preserved : goal.loop-product-preserved
loop-product-preserved c =
    let none : Product = record { state = 0; discrete = 0; coef = pos 0 } in
    let products : List Product = c.args.row.now.products in
    let levels : List ℤ = c.args.levels.now in
    let k : ℕ = c.loop-product.product-index in
    let past : ℕ = c.loop-product.past in
    let f : ℕ → ℤ = product_part c.args.level_bits products levels c.args.discretes.now in
    let is : c.as_slice-product-items.result.now ≡ products = c.as_slice-product-items.ensures in
    let state : ℕ = (get_or c.as_slice-product-items.result.now k none).state in
    let own : state ≡ (get_or products k none).state = ap (λ ps. (get_or ps k none).state) is in
    let inside : k < length products = omega (arith, c.loop-product-test.true, ap length is) in
    let from : past ≤ state = omega (arith, c.if-state-past.false) in
    let known : state < length levels = omega (arith, own, c.requires.row.products.of_states k none inside) in
    let gap : sum_below state f ≡ sum_below past f = sum_past f past state from
    (λ i low high. no_part c.args.level_bits products levels c.args.discretes.now i
    (free_between (length levels) (length c.args.discretes.now) products c.requires.row.products k past none inside c.loop-product.invariant.below i low (omega (arith, high, own)))) in
    let bound : unsigned_abs (to_z w128 c.loop-product.sum-bits) ≤ state * 2 ^ 88 = omega (arith, c.loop-product.invariant.bound, from) in
    let turn = below_step f state (length levels) (to_z w128 c.loop-product.sum-bits) c.slope_product_at_level-sum.result (2 ^ 88) (c.loop-product.invariant.so_far ∙ sym gap) bound
    c.slope_product_at_level-sum.ensures.value c.slope_product_at_level-sum.ensures.bound known (omega (arith, c.requires.count_limit)) in
    record {
      so_far = turn.0;
      bound = turn.1;
      few = omega (arith, known);
      below = below_one_more products k past (state + 1) none inside c.loop-product.invariant.below (omega (arith, from)) (omega (arith, own));
    }

pub returns-clause-value : goal.returns-clause-value
returns-clause-value c =
    let products : List Product = c.args.row.now.products in
    let all : length products ≤ c.loop-product.product-index = omega (arith, c.loop-product-test.false, ap length c.as_slice-product-items.ensures) in
    c.loop-product.invariant.so_far
    ∙ sym (sum_past (product_part c.args.level_bits products c.args.levels.now c.args.discretes.now) c.loop-product.past (length c.args.levels.now) c.loop-product.invariant.few
    (λ i low high. no_part c.args.level_bits products c.args.levels.now c.args.discretes.now i (free_behind products c.loop-product.product-index c.loop-product.past all c.loop-product.invariant.below i low)))
