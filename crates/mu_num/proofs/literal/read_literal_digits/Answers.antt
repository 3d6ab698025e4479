use Rattle.mu_num.proofs.Common.{arith, get_or, Significand, significand, take}
use Rattle.mu_num.proofs.Reading.{significand-push, taken_more, digits_step}
use Rattle.mu_num.proofs.literal.read_literal_digits.Goals as goal

pub loop-byte-preserved : goal.loop-byte-preserved
loop-byte-preserved c =
    let before : Significand = significand (take c.loop-byte.byte-index c.args.text.now) in
    let i = c.loop-byte.invariant in
    let step = digits_step before c.loop-byte.digits.number c.loop-byte.digits.zeros (get_or c.args.text.now c.loop-byte.byte-index 0) c.continue_literal_digits-digits.result.number c.continue_literal_digits-digits.result.zeros i.number i.zeros c.continue_literal_digits-digits.ensures.number c.continue_literal_digits-digits.ensures.zeros in
    let more = taken_more c.args.text.now c.loop-byte.byte-index c.loop-byte-test.true in
    let push = significand-push (take c.loop-byte.byte-index c.args.text.now) (get_or c.args.text.now c.loop-byte.byte-index 0) in
    record {
      number = rw (more, push) step.0;
      zeros = rw (more, push) step.1;
      few = omega (arith, c.continue_literal_digits-digits.ensures.count_limit, i.few);
    }
