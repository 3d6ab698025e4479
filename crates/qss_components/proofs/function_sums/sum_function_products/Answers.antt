-- The halving ends at the first product of the state.
use Rattle.qss_components.proofs.Common
use Common.{ℤ, ◌*ℤ◌, ◌*◌, ◌+◌, ◌-◌, ◌<◌, ◌==◌, ◌^◌, ◌∙◌, ◌≡◌, ◌≢◌, ◌≤◌, ap, arith, discrete_count}
use Common.{eqb-yes, false, get_or, if-true, if◌then◌else◌, input_discretes, int_at, length, List}
use Common.{nat_lt, nat_tests, pos, Product, products_of, rules, state_count, sum_step, sym}
use Common.{take_all, to_z, true, w128}
use Rattle.std.proofs.Common.{add-zero}
use Rattle.std.proofs.lemmas.List.Sorted.{IsPartitionPoint-from_clause}
use Rattle.std.specs.Prelude.{unsigned_abs}
use Rattle.qss_components.proofs.InputValues.{discrete_value}
use Rattle.qss_components.proofs.ProductRuns.{rest_at, rest_long, lesser_first, none_before}
use Rattle.qss_components.proofs.ProductRuns.{sum_ends}
use Rattle.qss_components.proofs.function_sums.sum_function_products.Goals as goal

pub loop-product-init : goal.loop-product-init
loop-product-init c =
    let m = c.args.m.now in
    let products = c.args.products.now in
    let from = c.partition_point-from.result in
    let point = IsPartitionPoint-from_clause (λ (product : Product). nat_lt product.state
    c.args.state) products from c.partition_point-from.ensures.partitioned
    (lesser_first (state_count m) (discrete_count m) products c.requires.products c.args.state)
    (λ a r q k. search rules) in
    record {
      so_far = sym (rw add-zero (none_before (state_count m) (discrete_count m) products
          c.requires.products c.args.state (input_discretes m c.args.inputs.now) from
          c.partition_point-from.ensures.bound
          (λ k d before. let lesser : nat_lt (get_or products k d).state c.args.state ≡ true =
          point.0 k d (omega arith) before in grind (arith, nat_tests))));
      bound = omega arith;
      least = λ k d behind within. let not : nat_lt (get_or products k d).state c.args.state ≡ false
          = point.1 k d behind within in grind (arith, nat_tests);
    }

pub loop-product-preserved : goal.loop-product-preserved
loop-product-preserved c =
    let m = c.args.m.now in
    let products = c.args.products.now in
    let discretes : List ℤ = input_discretes m c.args.inputs.now in
    let from = c.partition_point-from.result in
    let i = c.loop-product.product-index in
    let none : Product = record { state = 0; discrete = 0; coef = pos 0 } in
    let inside : from + i < length products = omega (
      arith,
      c.loop-product-test.true,
      rest_long
          products from,
    ) in
    let own : (get_or products (from + i) none).state ≡ c.args.state = rw
    (rest_at products from i none) at c.if-product-state.false in
    let value = rw (rest_at products from i none) at c.function_product_term-sum.ensures.value in
    let there : from + i + 1 ≡ from + (i + 1) = omega arith in
    let known = c.requires.products.of_discretes (from + i) none inside in
    let turn = sum_step (λ (product : Product). if product.state == c.args.state then product.coef
    *ℤ int_at discretes (product.discrete - state_count m) else pos 0)
    products (from + i) none (to_z w128 c.loop-product.sum-bits) c.function_product_term-sum.result
    (2 ^ 87)
    c.loop-product.invariant.so_far c.loop-product.invariant.bound
    (value ∙ ap (λ z. (get_or products (from + i) none).coef *ℤ z)
    (sym (discrete_value m c.args.inputs.now (get_or products (from + i) none).discrete known.0
    known.1))
    ∙ sym (if-true ((get_or products (from + i) none).state == c.args.state) _ _ (eqb-yes _ _ own)))
    c.function_product_term-sum.ensures.bound inside (omega (arith, c.requires.count_limit)) in
    record {
      so_far = rw there at turn.0;
      bound = rw there at turn.1;
      least =
          c.loop-product.invariant.least;
    }

pub returns-then-product-state-clause-value : goal.returns-then-product-state-clause-value
returns-then-product-state-clause-value c =
    let m = c.args.m.now in
    let products = c.args.products.now in
    let from = c.partition_point-from.result in
    let i = c.loop-product.product-index in
    let none : Product = record { state = 0; discrete = 0; coef = pos 0 } in
    let inside : from + i < length products = omega (
      arith,
      c.loop-product-test.true,
      rest_long
          products from,
    ) in
    let other : (get_or products (from + i) none).state ≢ c.args.state = rw
    (rest_at products from i none) at c.if-product-state.true in
    c.loop-product.invariant.so_far
    ∙ sum_ends (state_count m) (discrete_count m) products c.requires.products c.args.state
    (input_discretes m c.args.inputs.now) (from + i) none inside
    (c.loop-product.invariant.least (from + i) none (omega arith) inside) other

pub returns : goal.returns
returns c =
    let products = c.args.products.now in
    let from = c.partition_point-from.result in
    let i = c.loop-product.product-index in
    let most : from + i ≤ length products = omega (
      arith,
      c.loop-product.auto.product-index-end,
      c.partition_point-from.ensures.bound,
      rest_long products from,
    ) in
    let bound : unsigned_abs (to_z w128 c.loop-product.sum-bits) ≤ (from + i) * 2 ^ 87 =
    c.loop-product.invariant.bound in
    let all : length products ≤ from + i = omega (
      arith,
      c.loop-product-test.false,
      rest_long
          products from,
    ) in
    record {
      value = c.loop-product.invariant.so_far ∙ ap (λ ps. products_of ps (state_count c.args.m.now)
          (input_discretes c.args.m.now c.args.inputs.now) c.args.state)
          (take_all (from + i) products all);
      bound = omega (arith, bound, most, c.requires.count_limit);
    }
