-- The states between those of products are within the limit.
use Rattle.qss_machine.proofs.Common
use Common.{ℕ, ◌+◌, ◌<◌, ◌∙◌, ◌≡◌, ◌≤◌, ap, arith, cases_lt, exceeds, false, FitsSigned, get_or}
use Common.{inl, inr, length, List, mode_coefficient, pos, Product, subst, sym, to_z-of_z, w128}
use Rattle.qss_machine.proofs.ModeTests.{fits_false, fits_true}
use Rattle.qss_machine.proofs.ProductStates.{free_between, free_behind, below_one_more}
use Rattle.qss_machine.proofs.ProductStates.{own_mode_fits}
use Rattle.qss_machine.proofs.slope_rows.row_modes_fit.Goals as goal

pub returns-then-exceeds_power_of_two : goal.returns-then-exceeds_power_of_two
returns-then-exceeds_power_of_two c =
    let none : Product = record { state = 0; discrete = 0; coef = pos 0 } in
    let products : List Product = c.args.row.now.products in
    let k : ℕ = c.loop-product.product-index in
    let is : c.as_slice-product-items.result.now ≡ products = c.as_slice-product-items.ensures in
    let state : ℕ = (get_or c.as_slice-product-items.result.now k none).state in
    let own : state ≡ (get_or products k none).state = ap (λ ps. (get_or ps k none).state) is in
    let inside : k < length products = omega (arith, c.loop-product-test.true, ap length is) in
    let fits : FitsSigned w128 c.row_mode_coefficient-mode.result = record { sfits = c.row_mode_coefficient-mode.type_inv } in
    let large = rw (to_z-of_z w128 c.row_mode_coefficient-mode.result fits, c.row_mode_coefficient-mode.ensures.value) at c.exceeds_power_of_two.ensures in
    sym (fits_false c.args.state_count state (mode_coefficient c.args.level_bits c.args.state_count c.args.row.now c.args.discretes.now)
    (omega (arith, own, c.requires.row.products.of_states k none inside)) (sym large ∙ c.if-exceeds_power_of_two.true))

pub loop-product-preserved : goal.loop-product-preserved
loop-product-preserved c =
    let none : Product = record { state = 0; discrete = 0; coef = pos 0 } in
    let products : List Product = c.args.row.now.products in
    let n : ℕ = c.args.state_count in
    let count : ℕ = length c.args.discretes.now in
    let k : ℕ = c.loop-product.product-index in
    let past : ℕ = c.loop-product.past in
    let is : c.as_slice-product-items.result.now ≡ products = c.as_slice-product-items.ensures in
    let state : ℕ = (get_or c.as_slice-product-items.result.now k none).state in
    let own : state ≡ (get_or products k none).state = ap (λ ps. (get_or ps k none).state) is in
    let inside : k < length products = omega (arith, c.loop-product-test.true, ap length is) in
    let from : past ≤ state = omega (arith, c.if-state-past.false) in
    let known : state < n = omega (arith, own, c.requires.row.products.of_states k none inside) in
    let fits : FitsSigned w128 c.row_mode_coefficient-mode.result = record { sfits = c.row_mode_coefficient-mode.type_inv } in
    let large = rw (to_z-of_z w128 c.row_mode_coefficient-mode.result fits, c.row_mode_coefficient-mode.ensures.value) at c.exceeds_power_of_two.ensures in
    let Fits : ℕ → Type 0 = λ i. exceeds 44 (mode_coefficient c.args.level_bits n c.args.row.now c.args.discretes.now i) ≡ false in
    let here : Fits state = sym large ∙ c.if-exceeds_power_of_two.false in
    record {
      fit = λ i h. elim (cases_lt i past) [
        | inl before ↦ c.loop-product.invariant.fit i before
        | inr behind ↦ elim (cases_lt i state) [
          | inl between ↦ own_mode_fits c.args.level_bits n count c.args.row.now c.args.discretes.now i c.requires.row
              (free_between n count products c.requires.row.products k past none inside c.loop-product.invariant.below i behind (omega (arith, between, own)))
          | inr at ↦ (let same : state ≡ i = omega (arith, at, h) in subst Fits same here)
        ]
      ];
      few = omega (arith, known);
      below = below_one_more products k past (state + 1) none inside c.loop-product.invariant.below (omega (arith, from)) (omega (arith, own));
    }

pub returns : goal.returns
returns c =
    let products : List Product = c.args.row.now.products in
    let all : length products ≤ c.loop-product.product-index = omega (arith, c.loop-product-test.false, ap length c.as_slice-product-items.ensures) in
    sym (fits_true c.args.state_count (mode_coefficient c.args.level_bits c.args.state_count c.args.row.now c.args.discretes.now)
    (λ i h. elim (cases_lt i c.loop-product.past) [
      | inl before ↦ c.loop-product.invariant.fit i before
      | inr behind ↦ own_mode_fits c.args.level_bits c.args.state_count (length c.args.discretes.now) c.args.row.now c.args.discretes.now i c.requires.row
          (free_behind products c.loop-product.product-index c.loop-product.past all c.loop-product.invariant.below i behind)
    ]))
