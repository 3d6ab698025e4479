use Rattle.qss_machine.proofs.Common
use Common.{FitsSigned, mul-le-mul_left, to_z-of_z, unsigned_abs, unsigned_abs-mul, w128, w64}
use Rattle.qss_machine.proofs.form_values.form_time_part.Goals as goal

pub returns-clause-bound : goal.returns-clause-bound
returns-clause-bound c =
    let moment_fits : FitsSigned w128 c.form_unit_tick.result = record { sfits = c.form_unit_tick.type_inv } in
    let fits : FitsSigned w128 c.multiply_form_coefficient.result = record { sfits = c.multiply_form_coefficient.type_inv } in
    let product = rw (to_z-of_z w64 c.args.time c.ranges.time, to_z-of_z w128 c.form_unit_tick.result moment_fits) at c.multiply_form_coefficient.ensures in
    rw (to_z-of_z w128 c.multiply_form_coefficient.result fits, product, unsigned_abs-mul) (mul-le-mul_left (unsigned_abs c.args.time) c.form_unit_tick.ensures.bound)
