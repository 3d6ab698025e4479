use Rattle.qss_machine.proofs.Common.{◌*ℤ◌, ◌^◌, ◌∙◌, ◌≡◌, arith, FitsSigned, to_z-of_z, w128}
use Rattle.std.proofs.Common.{ap₂}
use Rattle.qss_machine.proofs.Loops.{product_fits, product_is, product_bound}
use Rattle.qss_machine.proofs.slope_rows.slope_term.Goals as goal

pub overflow_mul-result : goal.overflow_mul-result
overflow_mul-result c =
    let narrow_coef = c.ranges.coef in
    let narrow_value = c.ranges.value in
    let coef_is : c.from.result ≡ c.args.coef = simp to_z-of_z at c.from.ensures in
    let value_is : c.from-2.result ≡ c.args.value = simp to_z-of_z at c.from-2.ensures in
    let coef : FitsSigned w128 c.from.result = record { sfits = c.from.type_inv } in
    let value : FitsSigned w128 c.from-2.result = record { sfits = c.from-2.type_inv } in
    product_fits c.from.result c.from-2.result (2 ^ 44) (2 ^ 43) coef value (rw coef_is c.requires.coef) (rw value_is c.requires.value) (omega arith)

pub returns-clause-value : goal.returns-clause-value
returns-clause-value c =
    let narrow_coef = c.ranges.coef in
    let narrow_value = c.ranges.value in
    let coef_is : c.from.result ≡ c.args.coef = simp to_z-of_z at c.from.ensures in
    let value_is : c.from-2.result ≡ c.args.value = simp to_z-of_z at c.from-2.ensures in
    let coef : FitsSigned w128 c.from.result = record { sfits = c.from.type_inv } in
    let value : FitsSigned w128 c.from-2.result = record { sfits = c.from-2.type_inv } in
    product_is c.from.result c.from-2.result (2 ^ 44) (2 ^ 43) coef value (rw coef_is c.requires.coef) (rw value_is c.requires.value) (omega arith)
    ∙ ap₂ (λ a b. a *ℤ b) coef_is value_is

pub returns-clause-bound : goal.returns-clause-bound
returns-clause-bound c =
    let narrow_coef = c.ranges.coef in
    let narrow_value = c.ranges.value in
    let coef_is : c.from.result ≡ c.args.coef = simp to_z-of_z at c.from.ensures in
    let value_is : c.from-2.result ≡ c.args.value = simp to_z-of_z at c.from-2.ensures in
    let coef : FitsSigned w128 c.from.result = record { sfits = c.from.type_inv } in
    let value : FitsSigned w128 c.from-2.result = record { sfits = c.from-2.type_inv } in
    rw (product_is c.from.result c.from-2.result (2 ^ 44) (2 ^ 43) coef value (rw coef_is c.requires.coef) (rw value_is c.requires.value) (omega arith))
    (omega (arith, product_bound c.from.result c.from-2.result (2 ^ 44) (2 ^ 43) (rw coef_is c.requires.coef) (rw value_is c.requires.value)))
