-- A number passes where it is above the greatest that is within, or below the least.
use Rattle.mu_num.proofs.Common
use Common.{◌<ℤ◌, ◌^◌, ◌∙◌, ◌≤ℤ◌, arith, FitsSigned, ints, pos, sym, to_z-of_z, w128}
use Rattle.mu_num.proofs.SizeTests.{above-passes, below-passes}
use Rattle.mu_num.proofs.powers_of_two.exceeds_power_of_two.Goals as goal

pub returns-then-z-most : goal.returns-then-z-most
returns-then-z-most c =
    let of_z = c.ranges.z in
    let of_most : FitsSigned w128 c.unit-most.result = record { sfits = c.unit-most.type_inv } in
    let above : pos (2 ^ c.args.bits) <ℤ c.args.z = omega (arith, ints, c.unit-most.ensures, c.if-z-most.true) in
    c.if-z-most.true ∙ sym (above-passes c.args.bits c.args.z above)

pub returns-else-z-most : goal.returns-else-z-most
returns-else-z-most c =
    let of_z = c.ranges.z in
    let of_most : FitsSigned w128 c.unit-most.result = record { sfits = c.unit-most.type_inv } in
    let high : c.args.z ≤ℤ pos (2 ^ c.args.bits) = omega (arith, ints, c.unit-most.ensures, c.if-z-most.false) in
    rw (to_z-of_z w128 c.args.z of_z) (below-passes c.args.bits c.args.z _ (omega (arith, ints, c.unit-most.ensures)) high)
