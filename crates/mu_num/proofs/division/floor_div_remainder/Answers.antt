-- What the type's bits keep of the difference is all of it.
use Rattle.mu_num.proofs.Common
use Common.{◌%◌, ◌*ℤ◌, ◌*◌, ◌-ℤ◌, ◌^◌, ◌∙◌, arith, FitsSigned, ints, mod_below, to_z-of_z, w128}
use Rattle.std.proofs.Common.{ap₂}
use Rattle.std.proofs.lemmas.Int.{wrapping_sub-bits, wrapping_mul_is, int_wrap-sub_right}
use Rattle.std.proofs.lemmas.Int.{int_wrap_fits}
use Rattle.std.specs.Int.{int_wrap, cast_unsigned}
use Rattle.mu_num.proofs.division.floor_div_remainder.Goals as goal

pub returns-clause-value : goal.returns-clause-value
returns-clause-value c =
    let n = c.args.n in
    let d = c.args.d in
    let q = c.args.quotient in
    let product = cast_unsigned w128 d * cast_unsigned w128 q in
    let of_n : FitsSigned w128 n = c.ranges.n in
    let of_d : FitsSigned w128 d = c.ranges.d in
    let of_q : FitsSigned w128 q = c.ranges.quotient in
    let fits : FitsSigned w128 (n -ℤ d *ℤ q) = omega (arith, ints, c.requires.at_most, c.requires.greatest) in
    wrapping_sub-bits w128 (cast_unsigned w128 n) (product % 2 ^ 128) (omega (arith, ints)) (mod_below product (2 ^ 128) (omega arith))
    ∙ ap₂ (λ a b. int_wrap w128 (a -ℤ b)) (to_z-of_z w128 n of_n) (wrapping_mul_is w128 d q of_d of_q)
    ∙ int_wrap-sub_right w128 n (d *ℤ q)
    ∙ int_wrap_fits w128 (n -ℤ d *ℤ q) fits

pub returns-clause-range : goal.returns-clause-range
returns-clause-range c =
    let n = c.args.n in
    let d = c.args.d in
    let q = c.args.quotient in
    rw (returns-clause-value c) (omega (arith, ints, c.requires.at_most), omega (arith, ints, c.requires.greatest))
