use Rattle.qss_machine.proofs.Common.{◌*ℤ◌, ◌^◌, ◌∙◌, ◌≡◌, ap, arith, FitsSigned, to_z-of_z, w128}
use Rattle.qss_machine.proofs.Loops.{product_fits, product_is}
use Rattle.qss_machine.proofs.form_values.multiply_form_coefficient.Goals as goal

pub overflow_mul-result : goal.overflow_mul-result
overflow_mul-result c =
    let narrow = c.ranges.coef in
    let is : c.from.result ≡ c.args.coef = simp to_z-of_z at c.from.ensures in
    let fits : FitsSigned w128 c.from.result = record { sfits = c.from.type_inv } in
    product_fits c.from.result c.args.value (2 ^ 38) (2 ^ 88) fits c.ranges.value (rw is c.requires.coef) c.requires.value (omega arith)

pub returns : goal.returns
returns c =
    let narrow = c.ranges.coef in
    let is : c.from.result ≡ c.args.coef = simp to_z-of_z at c.from.ensures in
    let fits : FitsSigned w128 c.from.result = record { sfits = c.from.type_inv } in
    product_is c.from.result c.args.value (2 ^ 38) (2 ^ 88) fits c.ranges.value (rw is c.requires.coef) c.requires.value (omega arith)
    ∙ ap (λ z. z *ℤ c.args.value) is
