use Rattle.mu_num.proofs.Common.{◌∙◌, arith, is_exponent_mark, length, position_or_len_is, sym}
use Rattle.mu_num.proofs.literal.find_literal_exponent.Goals as goal

pub returns-then-is_literal_exponent_mark-clause-place : goal.returns-then-is_literal_exponent_mark-clause-place
returns-then-is_literal_exponent_mark-clause-place c = sym (position_or_len_is is_exponent_mark c.args.text.now c.loop-place.place 0 (omega arith) c.loop-place.invariant (λ lt. sym c.is_literal_exponent_mark.ensures ∙ c.if-is_literal_exponent_mark.true))

pub returns-clause-place : goal.returns-clause-place
returns-clause-place c = sym (position_or_len_is is_exponent_mark c.args.text.now (length c.args.text.now) 0 (omega arith) (λ k lt. c.loop-place.invariant k (omega arith)) (λ lt. absurd (omega arith)))
