use Rattle.qss_machine.proofs.Common.{FitsSigned, pow_mono, to_z-of_z, w128}
use Rattle.qss_machine.proofs.form_values.form_constant_part.Goals as goal

pub multiply_form_gamma-requires-clause-unit : goal.multiply_form_gamma-requires-clause-unit
multiply_form_gamma-requires-clause-unit c =
    let unit : FitsSigned w128 c.unit.result = record { sfits = c.unit.type_inv } in
    rw (to_z-of_z w128 c.unit.result unit, c.unit.ensures) (pow_mono c.requires.unit)
