use Rattle.cert_check.proofs.Common
use Common.{ℕ, ℤ, ◌*ℤ◌, ◌*◌, ◌-◌, ◌<◌, ◌==◌, ◌^◌, ◌∙◌, ◌≡◌, ◌≢◌, ◌≤◌, ap, arith, get_or}
use Common.{if◌then◌else◌, int_at, ints, length, List, Machine, pos, start_discretes, state_count}
use Common.{sum_step, sym, to_z, w64}
use Rattle.std.proofs.lemmas.Int.{to_z-of_z}
use Rattle.std.specs.Int.RustNames.{unsigned_abs, FitsSigned}
use Rattle.mu_num.proofs.Tests.{if-true, if-false, eqb-yes, eqb-no}
use Rattle.qss_machine.specs.declared.machine_parts.Product.{Product}
use Rattle.cert_check.proofs.StartRows.{next-fits, sum-skips, few-products}
use mir.Syntax.{w128}
use Rattle.cert_check.proofs.start_rows.sum_start_products.Goals as goal

abbrev none : Product
none = record { state = 0; discrete = 0; coef = pos 0 }

-- a product at the start
abbrev own-term : Machine → Product → ℤ
own-term m product =
    product.coef *ℤ int_at (start_discretes m) (product.discrete - state_count m)

-- the term of a product in the sum of a state
abbrev term : Machine → ℕ → Product → ℤ
term m state product = if product.state == state then own-term m product else pos 0

term-own : (m : Machine) (state : ℕ) (product : Product) → product.state ≡ state →
    own-term m product ≡ term m state product
term-own m state product e =
    let yes = eqb-yes product.state state e in
    sym (if-true (product.state == state) (own-term m product) (pos 0) yes)

term-other : (m : Machine) (state : ℕ) (product : Product) → product.state ≢ state →
    term m state product ≡ pos 0
term-other m state product e =
    if-false (product.state == state) (own-term m product) (pos 0) (eqb-no product.state state e)

pub loop-product-preserved-then-product-state : goal.loop-product-preserved-then-product-state
loop-product-preserved-then-product-state c =
    let products : List Product = c.args.row.now.products in
    let i : ℕ = c.loop-product.product-index in
    let same : c.as_slice-product-items.result.now ≡ products = c.as_slice-product-items.ensures in
    let within : i < length products = omega (arith, c.loop-product-test.true, ap length same) in
    let other : (get_or products i none).state ≢ c.args.state =
    rw same at c.if-product-state.true in
    let zero = term-other c.args.m.now c.args.state (get_or products i none) other in
    record {
      so_far = sum-skips (term c.args.m.now c.args.state) products i none
          (to_z w128 c.loop-product.sum-bits) c.loop-product.invariant.so_far zero within;
      bound = omega (arith, c.loop-product.invariant.bound);
    }

pub overflow_add-sum : goal.overflow_add-sum
overflow_add-sum c =
    let products : List Product = c.args.row.now.products in
    let few = few-products c.args.m.now c.args.row.now c.requires in
    let same : c.as_slice-product-items.result.now ≡ products = c.as_slice-product-items.ensures in
    let within : c.loop-product.product-index < length products =
    omega (arith, c.loop-product-test.true, ap length same) in
    next-fits (to_z w128 c.loop-product.sum-bits) c.start_term-sum.result
    c.loop-product.product-index (length products) (2 ^ 87) c.loop-product.invariant.bound
    c.start_term-sum.ensures.bound within (omega (arith, few))

pub loop-product-preserved : goal.loop-product-preserved
loop-product-preserved c =
    let m : Machine = c.args.m.now in
    let products : List Product = c.args.row.now.products in
    let i : ℕ = c.loop-product.product-index in
    let few = few-products m c.args.row.now c.requires in
    let same : c.as_slice-product-items.result.now ≡ products = c.as_slice-product-items.ensures in
    let within : i < length products = omega (arith, c.loop-product-test.true, ap length same) in
    let own : (get_or products i none).state ≡ c.args.state =
    rw same at c.if-product-state.false in
    let small : unsigned_abs (get_or products i none).coef ≤ 2 ^ 44 =
    c.requires.factors i none within in
    let coef : FitsSigned w64 (get_or products i none).coef = omega (arith, ints, small) in
    let value : c.start_term-sum.result ≡ own-term m (get_or products i none) =
    rw (same, to_z-of_z w64 (get_or products i none).coef coef) at c.start_term-sum.ensures.value in
    let turn = sum_step (term m c.args.state) products i none (to_z w128 c.loop-product.sum-bits)
    c.start_term-sum.result (2 ^ 87) c.loop-product.invariant.so_far c.loop-product.invariant.bound
    (value ∙ term-own m c.args.state (get_or products i none) own) c.start_term-sum.ensures.bound
    within (omega (arith, few)) in
    record { so_far = turn.0; bound = turn.1 }

pub returns-clause-bound : goal.returns-clause-bound
returns-clause-bound c =
    let products : List Product = c.args.row.now.products in
    let i : ℕ = c.loop-product.product-index in
    let few = few-products c.args.m.now c.args.row.now c.requires in
    let same : c.as_slice-product-items.result.now ≡ products = c.as_slice-product-items.ensures in
    let most : i ≤ length products =
    omega (arith, c.loop-product.auto.product-index-end, ap length same) in
    let bound : unsigned_abs (to_z w128 c.loop-product.sum-bits) ≤ i * 2 ^ 87 =
    c.loop-product.invariant.bound in
    omega (arith, bound, few, most)
