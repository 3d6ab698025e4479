use Rattle.qss_order2.proofs.Common.{ℤ, ◌*ℤ◌, ◌^◌, arith, fits_below, FitsSigned, to_z-of_z, w128}
use Rattle.qss_order2.proofs.Differences.{difference_fits, difference_is, difference_within}
use Rattle.qss_order2.proofs.order2_leaving.leaving_drift_of.Goals as goal

pub overflow_mul-result : goal.overflow_mul-result
overflow_mul-result c =
    rw (to_z-of_z w128 c.args.unit c.ranges.unit, to_z-of_z w128 c.args.change c.ranges.change)
    (fits_below (c.args.unit *ℤ c.args.change) (omega (arith, c.requires.change)))

pub overflow_sub-result : goal.overflow_sub-result
overflow_sub-result c =
    let product : ℤ = c.args.unit *ℤ c.args.change in
    let fits : FitsSigned w128 product = fits_below product (omega (arith, c.requires.change)) in
    rw (to_z-of_z w128 c.args.unit c.ranges.unit, to_z-of_z w128 c.args.change c.ranges.change)
    (difference_fits c.args.rise product (2 ^ 94) (2 ^ 95) c.ranges.rise fits c.requires.rise
    c.requires.change (omega arith))

pub returns-clause-value : goal.returns-clause-value
returns-clause-value c =
    let product : ℤ = c.args.unit *ℤ c.args.change in
    let fits : FitsSigned w128 product = fits_below product (omega (arith, c.requires.change)) in
    rw (to_z-of_z w128 c.args.unit c.ranges.unit, to_z-of_z w128 c.args.change c.ranges.change)
    (difference_is c.args.rise product (2 ^ 94) (2 ^ 95) c.ranges.rise fits c.requires.rise
    c.requires.change (omega arith))

pub returns-clause-bound : goal.returns-clause-bound
returns-clause-bound c =
    let product : ℤ = c.args.unit *ℤ c.args.change in
    let fits : FitsSigned w128 product = fits_below product (omega (arith, c.requires.change)) in
    rw (to_z-of_z w128 c.args.unit c.ranges.unit, to_z-of_z w128 c.args.change c.ranges.change)
    (omega (
      arith,
      difference_within c.args.rise product (2 ^ 94) (2 ^ 95) c.ranges.rise fits
          c.requires.rise c.requires.change (omega arith),
    ))
