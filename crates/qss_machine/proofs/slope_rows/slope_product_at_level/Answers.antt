use Rattle.qss_machine.proofs.Common
use Common.{arith, FitsSigned, ints, length, mode_coefficient, to_z-of_z, w128}
use Rattle.qss_machine.proofs.ModeTests.{fits_at}
use Rattle.qss_machine.proofs.Distinct.{coefficient_small}
use Rattle.qss_machine.proofs.slope_rows.slope_product_at_level.Goals as goal

-- a mode coefficient and an entry's coefficient within limits leave the products within twice the limit
pub wide_slope_term-requires-clause-coef : goal.wide_slope_term-requires-clause-coef
wide_slope_term-requires-clause-coef c =
    let row = c.args.row.now in
    let n = length c.args.levels.now in
    let fits : FitsSigned w128 c.rounded_row_products-rounded.result = record { sfits = c.rounded_row_products-rounded.type_inv } in
    let mode = fits_at n c.args.state (mode_coefficient c.args.level_bits n row c.args.discretes.now) c.requires.state c.requires.modes in
    let own = coefficient_small row.entries c.args.state c.requires.row.entries.rising c.requires.row.coefficients in
    rw (to_z-of_z w128 c.rounded_row_products-rounded.result fits, c.rounded_row_products-rounded.ensures.value) (omega (arith, ints, mode, own))
