use Rattle.qss_machine.proofs.Common.{◌*ℤ◌, ◌^◌, ◌∙◌, ◌≡◌, ap, arith, FitsSigned, to_z-of_z, w128}
use Rattle.qss_machine.proofs.Loops.{product_fits, product_is, product_bound}
use Rattle.qss_machine.proofs.form_values.multiply_by_unit.Goals as goal

pub overflow_mul-result : goal.overflow_mul-result
overflow_mul-result c =
    let narrow = c.ranges.value in
    let is : c.from.result ≡ c.args.value = simp to_z-of_z at c.from.ensures in
    let fits : FitsSigned w128 c.from.result = record { sfits = c.from.type_inv } in
    product_fits c.from.result c.args.unit (2 ^ 43) (2 ^ 44) fits c.ranges.unit (rw is c.requires.value) c.requires.unit (omega arith)

pub returns-clause-value : goal.returns-clause-value
returns-clause-value c =
    let narrow = c.ranges.value in
    let is : c.from.result ≡ c.args.value = simp to_z-of_z at c.from.ensures in
    let fits : FitsSigned w128 c.from.result = record { sfits = c.from.type_inv } in
    product_is c.from.result c.args.unit (2 ^ 43) (2 ^ 44) fits c.ranges.unit (rw is c.requires.value) c.requires.unit (omega arith)
    ∙ ap (λ z. z *ℤ c.args.unit) is

pub returns-clause-bound : goal.returns-clause-bound
returns-clause-bound c =
    let narrow = c.ranges.value in
    let is : c.from.result ≡ c.args.value = simp to_z-of_z at c.from.ensures in
    let fits : FitsSigned w128 c.from.result = record { sfits = c.from.type_inv } in
    rw (product_is c.from.result c.args.unit (2 ^ 43) (2 ^ 44) fits c.ranges.unit (rw is c.requires.value) c.requires.unit (omega arith))
    (omega (arith, product_bound c.from.result c.args.unit (2 ^ 43) (2 ^ 44) (rw is c.requires.value) c.requires.unit))
