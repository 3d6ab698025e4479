use Rattle.qss_machine.proofs.Common
use Common.{◌*ℤ◌, ◌^◌, ◌∙◌, ◌≤◌, ap, arith, FitsSigned, ints, mul-le-mul_left, to_z-of_z}
use Common.{unsigned_abs, unsigned_abs-mul, w128, w64}
use Rattle.qss_machine.proofs.form_values.form_entry_value.Goals as goal

pub returns-clause-value : goal.returns-clause-value
returns-clause-value c =
    let coef_small : unsigned_abs c.args.entry.coef ≤ 2 ^ 38 = c.requires.coef in
    let coef : FitsSigned w64 c.args.entry.coef = omega (arith, ints) in
    let input_fits : FitsSigned w128 c.form_input_at.result = record { sfits = c.form_input_at.type_inv } in
    let fits : FitsSigned w128 c.multiply_form_coefficient.result = record { sfits = c.multiply_form_coefficient.type_inv } in
    let product = rw (to_z-of_z w64 c.args.entry.coef coef, to_z-of_z w128 c.form_input_at.result input_fits) at c.multiply_form_coefficient.ensures in
    to_z-of_z w128 c.multiply_form_coefficient.result fits ∙ product ∙ ap (λ z. c.args.entry.coef *ℤ z) c.form_input_at.ensures.value

pub returns-clause-bound : goal.returns-clause-bound
returns-clause-bound c =
    let coef_small : unsigned_abs c.args.entry.coef ≤ 2 ^ 38 = c.requires.coef in
    let coef : FitsSigned w64 c.args.entry.coef = omega (arith, ints) in
    let input_fits : FitsSigned w128 c.form_input_at.result = record { sfits = c.form_input_at.type_inv } in
    let fits : FitsSigned w128 c.multiply_form_coefficient.result = record { sfits = c.multiply_form_coefficient.type_inv } in
    let product = rw (to_z-of_z w64 c.args.entry.coef coef, to_z-of_z w128 c.form_input_at.result input_fits) at c.multiply_form_coefficient.ensures in
    rw (to_z-of_z w128 c.multiply_form_coefficient.result fits, product, unsigned_abs-mul) (mul-le-mul_left (unsigned_abs c.args.entry.coef) c.form_input_at.ensures.bound)
