use Rattle.qss_components.proofs.Common
use Common.{◌*ℤ◌, ◌^◌, ◌∙◌, ◌≤◌, ap, arith, FitsSigned, ints, mul-le-mul_left, to_z-of_z}
use Common.{unsigned_abs, unsigned_abs-mul, w128, w64}
use Rattle.qss_components.proofs.crossing_model.crossing_value_part.Goals as goal

pub returns-clause-value : goal.returns-clause-value
returns-clause-value c =
    let coef_small : unsigned_abs c.args.input.coef ≤ 2 ^ 38 = c.requires.coef in
    let coef : FitsSigned w64 c.args.input.coef = omega (arith, ints) in
    let input_fits : FitsSigned w128 c.crossing_input_at.result = record { sfits = c.crossing_input_at.type_inv } in
    let fits : FitsSigned w128 c.multiply_form_coefficient.result = record { sfits = c.multiply_form_coefficient.type_inv } in
    let product = rw (to_z-of_z w64 c.args.input.coef coef, to_z-of_z w128 c.crossing_input_at.result input_fits) at c.multiply_form_coefficient.ensures in
    to_z-of_z w128 c.multiply_form_coefficient.result fits ∙ product ∙ ap (λ z. c.args.input.coef *ℤ z) c.crossing_input_at.ensures

pub returns-clause-bound : goal.returns-clause-bound
returns-clause-bound c =
    let coef_small : unsigned_abs c.args.input.coef ≤ 2 ^ 38 = c.requires.coef in
    let coef : FitsSigned w64 c.args.input.coef = omega (arith, ints) in
    let input_fits : FitsSigned w128 c.crossing_input_at.result = record { sfits = c.crossing_input_at.type_inv } in
    let fits : FitsSigned w128 c.multiply_form_coefficient.result = record { sfits = c.multiply_form_coefficient.type_inv } in
    let product = rw (to_z-of_z w64 c.args.input.coef coef, to_z-of_z w128 c.crossing_input_at.result input_fits) at c.multiply_form_coefficient.ensures in
    let small : unsigned_abs c.crossing_input_at.result ≤ 2 ^ 88 = rw c.crossing_input_at.ensures c.requires.size_limit in
    rw (to_z-of_z w128 c.multiply_form_coefficient.result fits, product, unsigned_abs-mul) (mul-le-mul_left (unsigned_abs c.args.input.coef) small)
