-- The sum fits.
use Rattle.mu_num.proofs.Common.{◌+ℤ◌, arith, FitsSigned, ints, to_z-of_z, w128}
use Rattle.mu_num.proofs.curves.curve_at.Goals as goal

pub returns : goal.returns
returns c =
    let of_c = c.ranges.c in
    let of_b = c.ranges.b in
    let of_a = c.ranges.a in
    let of_risen : FitsSigned w128 c.curve_linear_part.result = record { sfits = c.curve_linear_part.type_inv } in
    let of_bent : FitsSigned w128 c.curve_quadratic_part.result = record { sfits = c.curve_quadratic_part.type_inv } in
    let risen = simp to_z-of_z at c.curve_linear_part.ensures.value in
    let bent = simp to_z-of_z at c.curve_quadratic_part.ensures.value in
    let small_risen = c.curve_linear_part.ensures.bound in
    let small_bent = c.curve_quadratic_part.ensures.bound in
    let of_two : FitsSigned w128 (c.args.c +ℤ c.curve_linear_part.result) = omega (arith, ints, c.requires.start, small_risen) in
    let of_sum : FitsSigned w128 ((c.args.c +ℤ c.curve_linear_part.result) +ℤ c.curve_quadratic_part.result) = omega (arith, ints, c.requires.start, small_risen, small_bent) in
    simp to_z-of_z (omega (arith, ints, risen, bent))
