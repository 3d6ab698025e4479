-- The sums over the inputs are the slope and the absolute row sum.
use Rattle.qss_components.proofs.Common
use Common.{ℕ, ℤ, ◌*ℤ◌, ◌*◌, ◌+ℤ◌, ◌<◌, ◌^◌, ◌∙◌, ◌≡◌, ◌≤◌, abs_of, ap, arith, cases_lt, exceeds}
use Common.{false, fits_below, FitsSigned, FunctionInput, get_or, get_or_default, inl}
use Common.{input_discretes, inr, ints, length, mode_coefficient, row_at, SlopeRow, state_count}
use Common.{subst, sum_done, sum_over, sum_step, sym, to_z, to_z-of_z, unsigned_abs, w128, w64}
use Rattle.qss_machine.proofs.Loops.{sum_fits}
use Rattle.qss_components.proofs.InputPlaces.{no_input, inputs_few}
use Rattle.qss_components.proofs.InputSums.{right_side, is_row, mode_at, all_fit, one_exceeds}
use Rattle.qss_components.proofs.InputSums.{over_mode, over_weight, within_limits}
use Rattle.qss_components.proofs.function_sums.slope_at_inputs.Goals as goal

pub returns-then-exceeds_power_of_two : goal.returns-then-exceeds_power_of_two
returns-then-exceeds_power_of_two c =
    let m = c.args.m.now in
    let inputs = c.args.inputs.now in
    let var : ℕ = (get_or inputs c.loop-input.input-index no_input).var in
    let right = right_side m c.as_slice.result.now c.args.row c.index-as_slice-row.result
    c.requires.row c.as_slice.ensures c.index-as_slice-row.is in
    let mode : c.function_mode-mode.result ≡ mode_at m c.args.row c.requires.row inputs
    c.requires.inputs var =
    c.function_mode-mode.ensures.value ∙ ap (λ (r : SlopeRow). mode_coefficient m.f (state_count m)
    r (input_discretes m inputs) var) right in
    let fits : FitsSigned w128 c.function_mode-mode.result = record
    { sfits = c.function_mode-mode.type_inv } in
    let large = rw (to_z-of_z w128 c.function_mode-mode.result fits, mode) at
    c.exceeds_power_of_two.ensures in
    over_mode m c.args.row c.requires.row inputs c.requires.inputs
    (one_exceeds m c.args.row c.requires.row inputs c.requires.inputs var
    (sym large ∙ c.if-exceeds_power_of_two.true))

pub overflow_add-slope : goal.overflow_add-slope
overflow_add-slope c =
    let few = inputs_few c.args.m.now c.args.row c.args.inputs.now c.requires.inputs in
    let term : unsigned_abs c.function_mode_term-term.result ≤ 2 ^ 87 =
    c.function_mode_term-term.ensures.bound in
    let fits : FitsSigned w128 c.function_mode_term-term.result = record
    { sfits = c.function_mode_term-term.type_inv } in
    let so_far : unsigned_abs (to_z w128 c.loop-input.slope-bits) ≤ c.loop-input.input-index * 2 ^
    87 = c.loop-input.invariant.slope_bound in
    rw (to_z-of_z w128 c.function_mode_term-term.result fits)
    (fits_below (to_z w128 c.loop-input.slope-bits +ℤ c.function_mode_term-term.result)
    (omega (arith, ints, so_far, term, few, c.loop-input-test.true)))

pub overflow_add-weight : goal.overflow_add-weight
overflow_add-weight c =
    let few = inputs_few c.args.m.now c.args.row c.args.inputs.now c.requires.inputs in
    let term : unsigned_abs c.function_mode_term-term.result ≤ 2 ^ 87 =
    c.function_mode_term-term.ensures.bound in
    let term_fits : FitsSigned w128 c.function_mode_term-term.result = record
    { sfits = c.function_mode_term-term.type_inv } in
    let size = rw (to_z-of_z w128 c.function_mode_term-term.result term_fits) at
    c.abs-weight.ensures.value in
    let fits : FitsSigned w128 c.abs-weight.result = record { sfits = c.abs-weight.type_inv } in
    let so_far : unsigned_abs (to_z w128 c.loop-input.weight-bits) ≤ c.loop-input.input-index * 2 ^
    87 = c.loop-input.invariant.weight_bound in
    rw (to_z-of_z w128 c.abs-weight.result fits)
    (fits_below (to_z w128 c.loop-input.weight-bits +ℤ c.abs-weight.result)
    (omega (arith, ints, so_far, size, term, few, c.loop-input-test.true)))

pub loop-input-preserved : goal.loop-input-preserved
loop-input-preserved c =
    let m = c.args.m.now in
    let inputs = c.args.inputs.now in
    let i = c.loop-input.input-index in
    let input : FunctionInput = get_or inputs i no_input in
    let inside : i < length inputs = c.loop-input-test.true in
    let few = inputs_few m c.args.row inputs c.requires.inputs in
    let mode_of : ℕ → ℤ = λ v. mode_at m c.args.row c.requires.row inputs c.requires.inputs v in
    let right = right_side m c.as_slice.result.now c.args.row c.index-as_slice-row.result
    c.requires.row c.as_slice.ensures c.index-as_slice-row.is in
    let mode : c.function_mode-mode.result ≡ mode_of input.var =
    c.function_mode-mode.ensures.value ∙ ap (λ (r : SlopeRow). mode_coefficient m.f (state_count m)
    r (input_discretes m inputs) input.var) right in
    let mode_fits : FitsSigned w128 c.function_mode-mode.result = record
    { sfits = c.function_mode-mode.type_inv } in
    let small : exceeds 44 (mode_of input.var) ≡ false = sym (rw
    (to_z-of_z w128 c.function_mode-mode.result mode_fits, mode) at
    c.exceeds_power_of_two.ensures) ∙ c.if-exceeds_power_of_two.false in
    let value : unsigned_abs input.value ≤ 2 ^ 43 = c.requires.inputs.valued.small i no_input inside
    in
    let value_fits : FitsSigned w64 input.value = omega (arith, ints, value) in
    let term : c.function_mode_term-term.result ≡ mode_of input.var *ℤ input.value =
    rw (
      to_z-of_z w128 c.function_mode-mode.result mode_fits,
      to_z-of_z w64 input.value value_fits,
      mode,
    ) at c.function_mode_term-term.ensures.value in
    let term_bound : unsigned_abs c.function_mode_term-term.result ≤ 2 ^ 87 =
    c.function_mode_term-term.ensures.bound in
    let term_fits : FitsSigned w128 c.function_mode_term-term.result = record
    { sfits = c.function_mode_term-term.type_inv } in
    let size : c.abs-weight.result ≡ abs_of c.function_mode_term-term.result = rw
    (to_z-of_z w128 c.function_mode_term-term.result term_fits) at c.abs-weight.ensures.value in
    let size_bound : unsigned_abs c.abs-weight.result ≤ 2 ^ 87 = rw size term_bound in
    let slope = sum_step (λ (x : FunctionInput). mode_of x.var *ℤ x.value) inputs i no_input
    (to_z w128 c.loop-input.slope-bits) c.function_mode_term-term.result (2 ^ 87)
    c.loop-input.invariant.slopes c.loop-input.invariant.slope_bound term term_bound inside
    (omega (arith, few)) in
    let weight = sum_step (λ (x : FunctionInput). abs_of (mode_of x.var *ℤ x.value)) inputs i
    no_input (to_z w128 c.loop-input.weight-bits) c.abs-weight.result (2 ^ 87)
    c.loop-input.invariant.weights c.loop-input.invariant.weight_bound (size ∙ ap abs_of term)
    size_bound inside (omega (arith, few)) in
    record {
      slopes = slope.0;
      slope_bound = slope.1;
      weights = weight.0;
      weight_bound = weight.1;
      fit = λ k d h. elim (cases_lt k i) [
        | inl before ↦ c.loop-input.invariant.fit k d before
        | inr last ↦
            let same : k ≡ i = omega (arith, last, h) in
            subst (λ (j : ℕ). exceeds 44 (mode_of (get_or inputs j d).var) ≡ false) (sym same)
            (subst (λ (x : FunctionInput). exceeds 44 (mode_of x.var) ≡ false)
            (get_or_default inputs i no_input d inside) small)
      ];
    }

pub overflow_add-weight-2 : goal.overflow_add-weight-2
overflow_add-weight-2 c =
    let m = c.args.m.now in
    let inputs = c.args.inputs.now in
    let few = inputs_few m c.args.row inputs c.requires.inputs in
    let right = right_side m c.as_slice.result.now c.args.row c.index-as_slice-row.result
    c.requires.row c.as_slice.ensures c.index-as_slice-row.is in
    let beta : unsigned_abs c.index-as_slice-row.result.beta ≤ 2 ^ 78 = subst
    (λ (r : SlopeRow). unsigned_abs r.beta ≤ 2 ^ 78) (sym right)
    (is_row m c.args.row c.requires.row inputs c.requires.inputs).constant in
    let beta_fits : FitsSigned w128 c.index-as_slice-row.result.beta = omega (arith, ints, beta) in
    let size : c.abs.result ≡ abs_of c.index-as_slice-row.result.beta = rw
    (to_z-of_z w128 c.index-as_slice-row.result.beta beta_fits) at c.abs.ensures.value in
    let abs_fits : FitsSigned w128 c.abs.result = record { sfits = c.abs.type_inv } in
    let weight_bound : unsigned_abs (to_z w128 c.loop-input.weight-bits) ≤ c.loop-input.input-index
    * 2 ^ 87 = c.loop-input.invariant.weight_bound in
    let end = c.loop-input.auto.input-index-end in
    let total_fits : FitsSigned w128 (to_z w128 c.loop-input.weight-bits +ℤ c.abs.result) =
    fits_below (to_z w128 c.loop-input.weight-bits +ℤ c.abs.result)
    (omega (arith, ints, weight_bound, size, beta, few, end)) in
    rw (to_z-of_z w128 c.abs.result abs_fits) total_fits

pub overflow_add-result : goal.overflow_add-result
overflow_add-result c =
    let m = c.args.m.now in
    let inputs = c.args.inputs.now in
    let few = inputs_few m c.args.row inputs c.requires.inputs in
    let right = right_side m c.as_slice.result.now c.args.row c.index-as_slice-row.result
    c.requires.row c.as_slice.ensures c.index-as_slice-row.is in
    let beta : unsigned_abs c.index-as_slice-row.result.beta ≤ 2 ^ 78 = subst
    (λ (r : SlopeRow). unsigned_abs r.beta ≤ 2 ^ 78) (sym right)
    (is_row m c.args.row c.requires.row inputs c.requires.inputs).constant in
    let beta_fits : FitsSigned w128 c.index-as_slice-row.result.beta = omega (arith, ints, beta) in
    let slope_bound : unsigned_abs (to_z w128 c.loop-input.slope-bits) ≤ c.loop-input.input-index *
    2 ^ 87 = c.loop-input.invariant.slope_bound in
    let slope_fits : FitsSigned w128 (to_z w128 c.loop-input.slope-bits +ℤ
    c.index-as_slice-row.result.beta) =
    fits_below (to_z w128 c.loop-input.slope-bits +ℤ c.index-as_slice-row.result.beta)
    (omega (arith, ints, slope_bound, beta, few, c.loop-input.auto.input-index-end)) in
    rw (to_z-of_z w128 c.index-as_slice-row.result.beta beta_fits) slope_fits

pub returns-then-exceeds_power_of_two-2 : goal.returns-then-exceeds_power_of_two-2
returns-then-exceeds_power_of_two-2 c =
    let m = c.args.m.now in
    let inputs = c.args.inputs.now in
    let few = inputs_few m c.args.row inputs c.requires.inputs in
    let right = right_side m c.as_slice.result.now c.args.row c.index-as_slice-row.result
    c.requires.row c.as_slice.ensures c.index-as_slice-row.is in
    let beta : unsigned_abs c.index-as_slice-row.result.beta ≤ 2 ^ 78 = subst
    (λ (r : SlopeRow). unsigned_abs r.beta ≤ 2 ^ 78) (sym right)
    (is_row m c.args.row c.requires.row inputs c.requires.inputs).constant in
    let beta_fits : FitsSigned w128 c.index-as_slice-row.result.beta = omega (arith, ints, beta) in
    let size : c.abs.result ≡ abs_of c.index-as_slice-row.result.beta = rw
    (to_z-of_z w128 c.index-as_slice-row.result.beta beta_fits) at c.abs.ensures.value in
    let abs_fits : FitsSigned w128 c.abs.result = record { sfits = c.abs.type_inv } in
    let weight_bound : unsigned_abs (to_z w128 c.loop-input.weight-bits) ≤ c.loop-input.input-index
    * 2 ^ 87 = c.loop-input.invariant.weight_bound in
    let end = c.loop-input.auto.input-index-end in
    let total_fits : FitsSigned w128 (to_z w128 c.loop-input.weight-bits +ℤ c.abs.result) =
    fits_below (to_z w128 c.loop-input.weight-bits +ℤ c.abs.result)
    (omega (arith, ints, weight_bound, size, beta, few, end)) in
    let mode_of : ℕ → ℤ = λ v. mode_at m c.args.row c.requires.row inputs c.requires.inputs v in
    let fit = all_fit m c.args.row c.requires.row inputs c.requires.inputs
    (λ k h. c.loop-input.invariant.fit k no_input (omega (arith, h, c.loop-input-test.false)))
    in
    let weights = sum_done (λ (x : FunctionInput). abs_of (mode_of x.var *ℤ x.value)) inputs
    c.loop-input.input-index (to_z w128 c.loop-input.weight-bits) c.loop-input.invariant.weights
    c.loop-input-test.false in
    let all = sum_over (λ (x : FunctionInput). abs_of (mode_of x.var *ℤ x.value)) inputs in
    let weight : to_z w128 c.loop-input.weight-bits +ℤ c.abs.result ≡ all +ℤ abs_of
    (row_at m c.args.row).beta =
    ap (λ z. z +ℤ c.abs.result) weights ∙ ap (λ z. all +ℤ z) (size ∙ ap
    (λ (r : SlopeRow). abs_of r.beta) right) in
    let large = rw (sum_fits (to_z w128 c.loop-input.weight-bits) c.abs.result abs_fits total_fits)
    at c.exceeds_power_of_two-2.ensures in
    over_weight m c.args.row c.requires.row inputs c.requires.inputs fit
    (ap (exceeds 88) (sym weight) ∙ sym large ∙ c.if-exceeds_power_of_two-2.true)

pub returns-else-exceeds_power_of_two-2 : goal.returns-else-exceeds_power_of_two-2
returns-else-exceeds_power_of_two-2 c =
    let m = c.args.m.now in
    let inputs = c.args.inputs.now in
    let few = inputs_few m c.args.row inputs c.requires.inputs in
    let right = right_side m c.as_slice.result.now c.args.row c.index-as_slice-row.result
    c.requires.row c.as_slice.ensures c.index-as_slice-row.is in
    let beta : unsigned_abs c.index-as_slice-row.result.beta ≤ 2 ^ 78 = subst
    (λ (r : SlopeRow). unsigned_abs r.beta ≤ 2 ^ 78) (sym right)
    (is_row m c.args.row c.requires.row inputs c.requires.inputs).constant in
    let beta_fits : FitsSigned w128 c.index-as_slice-row.result.beta = omega (arith, ints, beta) in
    let size : c.abs.result ≡ abs_of c.index-as_slice-row.result.beta = rw
    (to_z-of_z w128 c.index-as_slice-row.result.beta beta_fits) at c.abs.ensures.value in
    let abs_fits : FitsSigned w128 c.abs.result = record { sfits = c.abs.type_inv } in
    let weight_bound : unsigned_abs (to_z w128 c.loop-input.weight-bits) ≤ c.loop-input.input-index
    * 2 ^ 87 = c.loop-input.invariant.weight_bound in
    let end = c.loop-input.auto.input-index-end in
    let total_fits : FitsSigned w128 (to_z w128 c.loop-input.weight-bits +ℤ c.abs.result) =
    fits_below (to_z w128 c.loop-input.weight-bits +ℤ c.abs.result)
    (omega (arith, ints, weight_bound, size, beta, few, end)) in
    let slope_bound : unsigned_abs (to_z w128 c.loop-input.slope-bits) ≤ c.loop-input.input-index *
    2 ^ 87 = c.loop-input.invariant.slope_bound in
    let slope_fits : FitsSigned w128 (to_z w128 c.loop-input.slope-bits +ℤ
    c.index-as_slice-row.result.beta) =
    fits_below (to_z w128 c.loop-input.slope-bits +ℤ c.index-as_slice-row.result.beta)
    (omega (arith, ints, slope_bound, beta, few, c.loop-input.auto.input-index-end)) in
    let mode_of : ℕ → ℤ = λ v. mode_at m c.args.row c.requires.row inputs c.requires.inputs v in
    let fit = all_fit m c.args.row c.requires.row inputs c.requires.inputs
    (λ k h. c.loop-input.invariant.fit k no_input (omega (arith, h, c.loop-input-test.false)))
    in
    let weights = sum_done (λ (x : FunctionInput). abs_of (mode_of x.var *ℤ x.value)) inputs
    c.loop-input.input-index (to_z w128 c.loop-input.weight-bits) c.loop-input.invariant.weights
    c.loop-input-test.false in
    let all = sum_over (λ (x : FunctionInput). abs_of (mode_of x.var *ℤ x.value)) inputs in
    let weight : to_z w128 c.loop-input.weight-bits +ℤ c.abs.result ≡ all +ℤ abs_of
    (row_at m c.args.row).beta =
    ap (λ z. z +ℤ c.abs.result) weights ∙ ap (λ z. all +ℤ z) (size ∙ ap
    (λ (r : SlopeRow). abs_of r.beta) right) in
    let large = rw (sum_fits (to_z w128 c.loop-input.weight-bits) c.abs.result abs_fits total_fits)
    at c.exceeds_power_of_two-2.ensures in
    let slopes = sum_done (λ (x : FunctionInput). mode_of x.var *ℤ x.value) inputs
    c.loop-input.input-index (to_z w128 c.loop-input.slope-bits) c.loop-input.invariant.slopes
    c.loop-input-test.false in
    let sum = sum_over (λ (x : FunctionInput). mode_of x.var *ℤ x.value) inputs in
    sum_fits (to_z w128 c.loop-input.slope-bits) c.index-as_slice-row.result.beta beta_fits
    slope_fits
    ∙ ap (λ z. z +ℤ c.index-as_slice-row.result.beta) slopes
    ∙ ap (λ (r : SlopeRow). sum +ℤ r.beta) right
    ∙ within_limits m c.args.row c.requires.row inputs c.requires.inputs fit
    (ap (exceeds 88) (sym weight) ∙ sym large ∙ c.if-exceeds_power_of_two-2.false)
