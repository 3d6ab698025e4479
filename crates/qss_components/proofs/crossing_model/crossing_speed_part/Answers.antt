use Rattle.qss_components.proofs.Common
use Common.{◌^◌, ◌∙◌, ◌≤◌, arith, FitsSigned, ints, mul-le-mul_left, to_z-of_z, unsigned_abs}
use Common.{unsigned_abs-mul, w128, w64}
use Rattle.qss_components.proofs.crossing_model.crossing_speed_part.Goals as goal

pub returns-clause-value : goal.returns-clause-value
returns-clause-value c =
    let coef_small : unsigned_abs c.args.input.coef ≤ 2 ^ 38 = c.requires.coef in
    let coef : FitsSigned w64 c.args.input.coef = omega (arith, ints) in
    let slow : unsigned_abs c.args.input.speed ≤ 2 ^ 88 = c.requires.slow in
    let speed : FitsSigned w128 c.args.input.speed = omega (arith, ints) in
    let fits : FitsSigned w128 c.multiply_form_coefficient.result = record { sfits = c.multiply_form_coefficient.type_inv } in
    let product = rw (to_z-of_z w64 c.args.input.coef coef, to_z-of_z w128 c.args.input.speed speed) at c.multiply_form_coefficient.ensures in
    to_z-of_z w128 c.multiply_form_coefficient.result fits ∙ product

pub returns-clause-bound : goal.returns-clause-bound
returns-clause-bound c =
    let coef_small : unsigned_abs c.args.input.coef ≤ 2 ^ 38 = c.requires.coef in
    let coef : FitsSigned w64 c.args.input.coef = omega (arith, ints) in
    let slow : unsigned_abs c.args.input.speed ≤ 2 ^ 88 = c.requires.slow in
    let speed : FitsSigned w128 c.args.input.speed = omega (arith, ints) in
    let fits : FitsSigned w128 c.multiply_form_coefficient.result = record { sfits = c.multiply_form_coefficient.type_inv } in
    let product = rw (to_z-of_z w64 c.args.input.coef coef, to_z-of_z w128 c.args.input.speed speed) at c.multiply_form_coefficient.ensures in
    rw (to_z-of_z w128 c.multiply_form_coefficient.result fits, product, unsigned_abs-mul) (mul-le-mul_left (unsigned_abs c.args.input.coef) slow)
