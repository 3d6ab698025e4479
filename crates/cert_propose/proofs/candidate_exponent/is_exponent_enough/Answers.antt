use Rattle.cert_propose.proofs.Common
use Common.{◌*ℤ◌, ◌<◌, ◌^◌, arith, int_le, length, pos, row_size, sym, table}
use Rattle.cert_propose.proofs.Exponents.{all-below, one-below}
use Rattle.cert_propose.proofs.candidate_exponent.is_exponent_enough.Goals as goal

pub returns-then-not-is_exponent_above_row : goal.returns-then-not-is_exponent_above_row
returns-then-not-is_exponent_above_row c =
    let n = length c.args.a.now in
    let i< : c.loop-i.i < n = omega (arith, c.loop-i-test.true, c.size-i-end.ensures.size) in
    sym (one-below (λ i. int_le (pos 16 *ℤ row_size n (table c.args.a.now) i) (pos (2 ^ c.args.q))) n c.loop-i.i i< (sym c.if-not-is_exponent_above_row.ensures))

pub returns : goal.returns
returns c =
    let n = length c.args.a.now in
    sym (all-below (λ i. int_le (pos 16 *ℤ row_size n (table c.args.a.now) i) (pos (2 ^ c.args.q))) n (λ k l. c.loop-i.invariant k (omega (arith, l, c.loop-i-test.false, c.size-i-end.ensures.size))))
