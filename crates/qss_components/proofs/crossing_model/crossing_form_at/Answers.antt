use Rattle.qss_components.proofs.Common
use Common.{◌*ℤ◌, ◌*◌, ◌+ℤ◌, ◌+◌, ◌^◌, ◌∙◌, ◌≤◌, ap, arith, FitsSigned, Input, input_at, ints, pos}
use Common.{sum_by, sum_over, to_z-of_z, unsigned_abs, w128, w64}
use Rattle.qss_components.proofs.Inputs.{entry_sizes}
use Rattle.qss_components.proofs.crossing_model.crossing_form_at.Goals as goal

pub crossing_value_sum-own-requires-clause-coefficients : goal.crossing_value_sum-own-requires-clause-coefficients
crossing_value_sum-own-requires-clause-coefficients c = omega (arith, entry_sizes c.args.inputs.now, c.requires.parts.coefficients)

pub add_form_parts-requires : goal.add_form_parts-requires
add_form_parts-requires c =
    let coefficients : sum_by (λ (i : Input). unsigned_abs i.coef) c.args.inputs.now + unsigned_abs c.args.time ≤ 2 ^ 38 = omega (arith, entry_sizes c.args.inputs.now, c.requires.parts.coefficients) in
    let own : FitsSigned w128 c.crossing_value_sum-own.result = record { sfits = c.crossing_value_sum-own.type_inv } in
    let time : FitsSigned w128 c.form_time_part-moved.result = record { sfits = c.form_time_part-moved.type_inv } in
    let constant : FitsSigned w128 c.form_constant_part-fixed.result = record { sfits = c.form_constant_part-fixed.type_inv } in
    let own_bound = c.crossing_value_sum-own.ensures.bound in
    let time_bound = rw (to_z-of_z w64 c.args.time c.ranges.time) at c.form_time_part-moved.ensures.bound in
    let constant_bound : unsigned_abs c.form_constant_part-fixed.result ≤ 2 ^ 122 = c.form_constant_part-fixed.ensures.bound in
    rw (to_z-of_z w128 c.crossing_value_sum-own.result own, to_z-of_z w128 c.form_time_part-moved.result time, to_z-of_z w128 c.form_constant_part-fixed.result constant)
    (omega (arith, own_bound, time_bound, constant_bound, coefficients))

pub returns-clause-value : goal.returns-clause-value
returns-clause-value c =
    let coefficients : sum_by (λ (i : Input). unsigned_abs i.coef) c.args.inputs.now + unsigned_abs c.args.time ≤ 2 ^ 38 = omega (arith, entry_sizes c.args.inputs.now, c.requires.parts.coefficients) in
    let own : FitsSigned w128 c.crossing_value_sum-own.result = record { sfits = c.crossing_value_sum-own.type_inv } in
    let time : FitsSigned w128 c.form_time_part-moved.result = record { sfits = c.form_time_part-moved.type_inv } in
    let constant : FitsSigned w128 c.form_constant_part-fixed.result = record { sfits = c.form_constant_part-fixed.type_inv } in
    let sum_fits : FitsSigned w128 c.add_form_parts.result = record { sfits = c.add_form_parts.type_inv } in
    let sum = rw (to_z-of_z w128 c.crossing_value_sum-own.result own, to_z-of_z w128 c.form_time_part-moved.result time, to_z-of_z w128 c.form_constant_part-fixed.result constant) at c.add_form_parts.ensures in
    let time_value = rw (to_z-of_z w64 c.args.time c.ranges.time) at c.form_time_part-moved.ensures.value in
    let constant_value = rw (to_z-of_z w128 c.args.gamma c.ranges.gamma) at c.form_constant_part-fixed.ensures.value in
    to_z-of_z w128 c.add_form_parts.result sum_fits ∙ sum
    ∙ ap (λ z. z +ℤ c.form_time_part-moved.result +ℤ c.form_constant_part-fixed.result) c.crossing_value_sum-own.ensures.value
    ∙ ap (λ z. sum_over (λ (i : Input). i.coef *ℤ input_at c.args.tick i) c.args.inputs.now +ℤ z +ℤ c.form_constant_part-fixed.result) time_value
    ∙ ap (λ z. sum_over (λ (i : Input). i.coef *ℤ input_at c.args.tick i) c.args.inputs.now +ℤ c.args.time *ℤ pos (c.args.tick * 2 ^ (c.args.m.now.f + c.args.m.now.p)) +ℤ z) constant_value

pub returns-clause-bound : goal.returns-clause-bound
returns-clause-bound c =
    let coefficients : sum_by (λ (i : Input). unsigned_abs i.coef) c.args.inputs.now + unsigned_abs c.args.time ≤ 2 ^ 38 = omega (arith, entry_sizes c.args.inputs.now, c.requires.parts.coefficients) in
    let own : FitsSigned w128 c.crossing_value_sum-own.result = record { sfits = c.crossing_value_sum-own.type_inv } in
    let time : FitsSigned w128 c.form_time_part-moved.result = record { sfits = c.form_time_part-moved.type_inv } in
    let constant : FitsSigned w128 c.form_constant_part-fixed.result = record { sfits = c.form_constant_part-fixed.type_inv } in
    let own_bound = c.crossing_value_sum-own.ensures.bound in
    let time_bound = rw (to_z-of_z w64 c.args.time c.ranges.time) at c.form_time_part-moved.ensures.bound in
    let constant_bound : unsigned_abs c.form_constant_part-fixed.result ≤ 2 ^ 122 = c.form_constant_part-fixed.ensures.bound in
    let sum_fits : FitsSigned w128 c.add_form_parts.result = record { sfits = c.add_form_parts.type_inv } in
    let sum = rw (to_z-of_z w128 c.crossing_value_sum-own.result own, to_z-of_z w128 c.form_time_part-moved.result time, to_z-of_z w128 c.form_constant_part-fixed.result constant) at c.add_form_parts.ensures in
    rw (to_z-of_z w128 c.add_form_parts.result sum_fits, sum)
    (omega (arith, ints, own_bound, time_bound, constant_bound, coefficients))
