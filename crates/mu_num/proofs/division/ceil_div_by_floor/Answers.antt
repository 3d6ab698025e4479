-- The quotient rounded down, or one more where there is a rest.
use Rattle.mu_num.proofs.Common
use Common.{◌+ℤ◌, ◌<ℤ◌, ◌≡◌, ◌≤ℤ◌, arith, FitsSigned, floor_of, int_rem_euclid, ints, pos}
use Common.{to_z-of_z, w128}
use Rattle.mu_num.proofs.NearestCases.{next_fits}
use Rattle.mu_num.proofs.Quotients.{rest_is, ceiling_exact, ceiling_next}
use Rattle.mu_num.proofs.division.ceil_div_by_floor.Goals as goal

pub returns-then-floor_div_remainder-eq0 : goal.returns-then-floor_div_remainder-eq0
returns-then-floor_div_remainder-eq0 c =
    let of_n = c.ranges.n in
    let of_d = c.ranges.d in
    let fits : FitsSigned w128 c.floor_div-quotient.result = record { sfits = c.floor_div-quotient.type_inv } in
    let rest_fits : FitsSigned w128 c.floor_div_remainder.result = record { sfits = c.floor_div_remainder.type_inv } in
    let quotient : c.floor_div-quotient.result ≡ floor_of c.args.n c.args.d = simp to_z-of_z at c.floor_div-quotient.ensures.value in
    let rest : c.floor_div_remainder.result ≡ int_rem_euclid c.args.n c.args.d = rest_is c.args.n c.args.d c.floor_div-quotient.result c.floor_div_remainder.result c.requires quotient (simp to_z-of_z at c.floor_div_remainder.ensures.value) in
    let none : int_rem_euclid c.args.n c.args.d ≡ pos 0 = omega (arith, ints, rest, c.floor_div_remainder.ensures.range.0, c.floor_div_remainder.ensures.range.1) in
    rw (to_z-of_z w128 c.floor_div-quotient.result fits, quotient) (ceiling_exact c.args.n c.args.d c.requires none)

pub returns : goal.returns
returns c =
    let of_n = c.ranges.n in
    let of_d = c.ranges.d in
    let fits : FitsSigned w128 c.floor_div-quotient.result = record { sfits = c.floor_div-quotient.type_inv } in
    let rest_fits : FitsSigned w128 c.floor_div_remainder.result = record { sfits = c.floor_div_remainder.type_inv } in
    let quotient : c.floor_div-quotient.result ≡ floor_of c.args.n c.args.d = simp to_z-of_z at c.floor_div-quotient.ensures.value in
    let rest : c.floor_div_remainder.result ≡ int_rem_euclid c.args.n c.args.d = rest_is c.args.n c.args.d c.floor_div-quotient.result c.floor_div_remainder.result c.requires quotient (simp to_z-of_z at c.floor_div_remainder.ensures.value) in
    let some : pos 0 <ℤ int_rem_euclid c.args.n c.args.d = omega (arith, ints, rest, c.floor_div_remainder.ensures.range.0, c.floor_div_remainder.ensures.range.1) in
    let two : pos 2 ≤ℤ c.args.d = omega (arith, ints, rest, c.floor_div_remainder.ensures.range.0, c.floor_div_remainder.ensures.range.1) in
    let more = next_fits c.args.n c.args.d of_n two in
    rw (to_z-of_z w128 c.floor_div-quotient.result fits, quotient, to_z-of_z w128 (floor_of c.args.n c.args.d +ℤ pos 1) more) (ceiling_next c.args.n c.args.d c.requires some)
