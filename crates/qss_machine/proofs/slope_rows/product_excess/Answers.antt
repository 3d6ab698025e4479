-- The states between those of products contribute 0.
use Rattle.qss_machine.proofs.Common
use Common.{ℕ, ℤ, ◌*ℤ◌, ◌*◌, ◌+◌, ◌-ℤ◌, ◌<◌, ◌^◌, ◌∙◌, ◌≡◌, ◌≤◌, abs_of, ap, arith, coefficient_of}
use Common.{get_or, int_at, ints, length, List, mode_coefficient, pos, Product, SlopeRow, sum_below}
use Common.{sym, to_z, w128, zero-*ℤ}
use Rattle.std.proofs.Common.{unsigned_abs}
use Rattle.qss_machine.proofs.Loops.{below_step}
use Rattle.qss_machine.proofs.ProductStates.{IsFree, free_between, free_behind, below_one_more}
use Rattle.qss_machine.proofs.ProductStates.{own_mode, sum_past}
use Rattle.qss_machine.proofs.slope_rows.product_excess.Goals as goal

-- what a state's products add to an absolute row sum
abbrev excess_part : ℕ → SlopeRow → List ℤ → List ℤ → ℕ → ℤ
excess_part bits row levels discretes i = (abs_of (mode_coefficient bits (length levels) row discretes i) -ℤ abs_of (coefficient_of row.entries i)) *ℤ abs_of (int_at levels i)

no_part : (bits : ℕ) (row : SlopeRow) (levels discretes : List ℤ) (i : ℕ) → IsFree row.products i → excess_part bits row levels discretes i ≡ pos 0
no_part bits row levels discretes i free =
    let own : ℤ = abs_of (coefficient_of row.entries i) in
    let same : abs_of (mode_coefficient bits (length levels) row discretes i) -ℤ own ≡ pos 0 =
    ap (λ z. abs_of z -ℤ own) (own_mode bits (length levels) row discretes i free) ∙ omega (arith, ints) in
    ap (λ z. z *ℤ abs_of (int_at levels i)) same ∙ zero-*ℤ (abs_of (int_at levels i))

pub loop-product-preserved : goal.loop-product-preserved
loop-product-preserved c =
    let none : Product = record { state = 0; discrete = 0; coef = pos 0 } in
    let products : List Product = c.args.row.now.products in
    let levels : List ℤ = c.args.levels.now in
    let k : ℕ = c.loop-product.product-index in
    let past : ℕ = c.loop-product.past in
    let f : ℕ → ℤ = excess_part c.args.level_bits c.args.row.now levels c.args.discretes.now in
    let is : c.as_slice-product-items.result.now ≡ products = c.as_slice-product-items.ensures in
    let state : ℕ = (get_or c.as_slice-product-items.result.now k none).state in
    let own : state ≡ (get_or products k none).state = ap (λ ps. (get_or ps k none).state) is in
    let inside : k < length products = omega (arith, c.loop-product-test.true, ap length is) in
    let from : past ≤ state = omega (arith, c.if-state-past.false) in
    let known : state < length levels = omega (arith, own, c.requires.row.products.of_states k none inside) in
    let gap : sum_below state f ≡ sum_below past f = sum_past f past state from
    (λ i low high. no_part c.args.level_bits c.args.row.now levels c.args.discretes.now i
    (free_between (length levels) (length c.args.discretes.now) products c.requires.row.products k past none inside c.loop-product.invariant.below i low (omega (arith, high, own)))) in
    let bound : unsigned_abs (to_z w128 c.loop-product.sum-bits) ≤ state * 2 ^ 88 = omega (arith, c.loop-product.invariant.bound, from) in
    let turn = below_step f state (length levels) (to_z w128 c.loop-product.sum-bits) c.state_product_excess-sum.result (2 ^ 88) (c.loop-product.invariant.so_far ∙ sym gap) bound
    c.state_product_excess-sum.ensures.value c.state_product_excess-sum.ensures.bound known (omega (arith, c.requires.count_limit)) in
    record {
      so_far = turn.0;
      bound = turn.1;
      few = omega (arith, known);
      below = below_one_more products k past (state + 1) none inside c.loop-product.invariant.below (omega (arith, from)) (omega (arith, own));
    }

pub returns-clause-value : goal.returns-clause-value
returns-clause-value c =
    let products : List Product = c.args.row.now.products in
    let all : length products ≤ c.loop-product.product-index = omega (arith, c.loop-product-test.false, ap length c.as_slice-product-items.ensures) in
    c.loop-product.invariant.so_far
    ∙ sym (sum_past (excess_part c.args.level_bits c.args.row.now c.args.levels.now c.args.discretes.now) c.loop-product.past (length c.args.levels.now) c.loop-product.invariant.few
    (λ i low high. no_part c.args.level_bits c.args.row.now c.args.levels.now c.args.discretes.now i (free_behind products c.loop-product.product-index c.loop-product.past all c.loop-product.invariant.below i low)))
