use Rattle.qss_machine.proofs.Common
use Common.{◌^◌, ◌≤◌, arith, FitsSigned, pos, pow_mono, to_z-of_z, unsigned_abs, w128}
use Rattle.mu_num.proofs.Quotients.{nearest_bound}
use Rattle.qss_machine.proofs.Powers.{power_positive}
use Rattle.qss_machine.proofs.slope_rows.round_slope_products.Goals as goal

pub returns-clause-value : goal.returns-clause-value
returns-clause-value c =
    let sum_fits = c.ranges.sum in
    let unit_fits : FitsSigned w128 c.units_in_one.result = record { sfits = c.units_in_one.type_inv } in
    let fits : FitsSigned w128 c.near_div.result = record { sfits = c.near_div.type_inv } in
    rw (to_z-of_z w128 c.near_div.result fits) (rw (to_z-of_z w128 c.args.sum sum_fits, to_z-of_z w128 c.units_in_one.result unit_fits, c.units_in_one.ensures) at c.near_div.ensures.value)

pub returns-clause-bound : goal.returns-clause-bound
returns-clause-bound c =
    let sum_fits = c.ranges.sum in
    let unit_fits : FitsSigned w128 c.units_in_one.result = record { sfits = c.units_in_one.type_inv } in
    let fits : FitsSigned w128 c.near_div.result = record { sfits = c.near_div.type_inv } in
    let near = rw (to_z-of_z w128 c.args.sum sum_fits, to_z-of_z w128 c.units_in_one.result unit_fits, c.units_in_one.ensures) at c.near_div.ensures.nearest in
    let one_unit : 2 ^ c.args.level_bits ≤ 2 ^ 24 = pow_mono c.requires.bits in
    let sum : unsigned_abs c.args.sum ≤ 2 ^ 111 = c.requires.sum in
    rw (to_z-of_z w128 c.near_div.result fits)
    (omega (arith, nearest_bound c.args.sum (pos (2 ^ c.args.level_bits)) c.near_div.result (power_positive c.args.level_bits) near))
