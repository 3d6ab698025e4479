-- What the bits of a number leave.
use Rattle.mu_num.proofs.Common
use Common.{◌%◌, ◌*◌, ◌<ℤ◌, ◌<◌, ◌^◌, ◌∙◌, ◌≡◌, ap, arith, ints, of_z, pos, pow_below, pow_pos}
use Common.{to_z-of_z, w128}
use Rattle.mu_num.proofs.Quotients.{low_is, rem_is}
use Rattle.mu_num.proofs.division.division_shift_remainder.Goals as goal

pub returns-clause-value : goal.returns-clause-value
returns-clause-value c =
    let of_n = c.ranges.n in
    let small : 2 ^ c.args.bits < 2 ^ 64 = pow_below c.args.bits 64 c.requires in
    let power : 1 * 2 ^ c.args.bits % 2 ^ 128 ≡ 2 ^ c.args.bits = omega arith in
    let positive : pos 0 <ℤ pos (2 ^ c.args.bits) = omega (arith, ints, pow_pos c.args.bits) in
    let of_bits : c.cast_unsigned.result ≡ of_z w128 c.args.n = c.cast_unsigned.ensures ∙ ap (of_z w128) (to_z-of_z w128 c.args.n of_n) in
    rw (power, of_bits) (low_is c.args.n c.args.bits of_n (omega (arith, c.requires)) ∙ rem_is c.args.n (pos (2 ^ c.args.bits)) positive)
