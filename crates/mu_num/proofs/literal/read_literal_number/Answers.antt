use Rattle.mu_num.proofs.Common.{◌^◌, ◌∙◌, ap, digit_after, get_or, min, number_of, take}
use Rattle.mu_num.proofs.Reading.{number_of-push, taken_more, cut_digit}
use Rattle.mu_num.proofs.literal.read_literal_number.Goals as goal

pub loop-byte-preserved : goal.loop-byte-preserved
loop-byte-preserved c =
    rw (taken_more c.args.text.now c.loop-byte.byte-index c.loop-byte-test.true, number_of-push (take c.loop-byte.byte-index c.args.text.now) (get_or c.args.text.now c.loop-byte.byte-index 0))
    (c.append_literal_byte-number.ensures.value
    ∙ ap (λ x. min (digit_after x (get_or c.args.text.now c.loop-byte.byte-index 0)) (2 ^ 64)) c.loop-byte.invariant
    ∙ cut_digit (number_of (take c.loop-byte.byte-index c.args.text.now)) (get_or c.args.text.now c.loop-byte.byte-index 0))
