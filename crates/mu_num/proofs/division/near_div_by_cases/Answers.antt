-- The power of two is the divisor.
use Rattle.mu_num.proofs.Common.{◌^◌, ◌≡◌, FitsSigned, pos, to_z-of_z, w128}
use Rattle.mu_num.proofs.division.near_div_by_cases.Goals as goal

pub returns-in-Some : goal.returns-in-Some
returns-in-Some c =
    let of_n = c.ranges.n in
    let of_d = c.ranges.d in
    let fits : FitsSigned w128 c.near_div_by_shift.result = record { sfits = c.near_div_by_shift.type_inv } in
    let power : c.args.d ≡ pos (2 ^ c.in-Some.bits) = simp to_z-of_z at c.in-Some.ensures.1 in
    rw (to_z-of_z w128 c.near_div_by_shift.result fits, power) (simp to_z-of_z at c.near_div_by_shift.ensures)
