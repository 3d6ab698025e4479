use Rattle.qss_machine.proofs.Common.{◌∙◌, FitsSigned, pow_mono, to_z-of_z, w128, w64}
use Rattle.qss_machine.proofs.form_values.scale_discrete_value.Goals as goal

pub returns-clause-value : goal.returns-clause-value
returns-clause-value c =
    let unit : FitsSigned w128 c.unit.result = record { sfits = c.unit.type_inv } in
    let fits : FitsSigned w128 c.multiply_by_unit.result = record { sfits = c.multiply_by_unit.type_inv } in
    to_z-of_z w128 c.multiply_by_unit.result fits
    ∙ (rw (to_z-of_z w64 c.args.value c.ranges.value, to_z-of_z w128 c.unit.result unit, c.unit.ensures) at c.multiply_by_unit.ensures.value)

pub multiply_by_unit-requires-clause-unit : goal.multiply_by_unit-requires-clause-unit
multiply_by_unit-requires-clause-unit c =
    let unit : FitsSigned w128 c.unit.result = record { sfits = c.unit.type_inv } in
    rw (to_z-of_z w128 c.unit.result unit, c.unit.ensures) (pow_mono c.requires.unit)
