-- The sum fits.
use Rattle.qss_order2.proofs.Common.{◌+ℤ◌, arith, FitsSigned, ints, to_z-of_z, w128}
use Rattle.qss_order2.proofs.order2_motion.state_after_motion.Goals as goal

pub returns : goal.returns
returns c =
    let of_x = c.ranges.x in
    let of_rise = c.ranges.rise in
    let of_bend = c.ranges.bend in
    let of_risen : FitsSigned w128 c.rise_in_motion.result = record { sfits = c.rise_in_motion.type_inv } in
    let of_bent : FitsSigned w128 c.bend_in_motion.result = record { sfits = c.bend_in_motion.type_inv } in
    let risen = simp to_z-of_z at c.rise_in_motion.ensures.value in
    let bent = simp to_z-of_z at c.bend_in_motion.ensures.value in
    let small_risen = c.rise_in_motion.ensures.bound in
    let small_bent = c.bend_in_motion.ensures.bound in
    let of_two : FitsSigned w128 (c.args.x +ℤ c.rise_in_motion.result) =
    omega (arith, ints, c.requires.state, small_risen) in
    let of_sum : FitsSigned w128 ((c.args.x +ℤ c.rise_in_motion.result) +ℤ c.bend_in_motion.result)
    =
    omega (arith, ints, c.requires.state, small_risen, small_bent) in
    simp to_z-of_z (omega (arith, ints, risen, bent))
