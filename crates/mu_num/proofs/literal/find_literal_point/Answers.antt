use Rattle.mu_num.proofs.Common.{arith, eq-eqb, is_point, length, position_or_len_is, sym}
use Rattle.mu_num.proofs.literal.find_literal_point.Goals as goal

pub returns-then-text-place-eq46-clause-place : goal.returns-then-text-place-eq46-clause-place
returns-then-text-place-eq46-clause-place c = sym (position_or_len_is is_point c.args.text.now c.loop-place.place 0 (omega arith) c.loop-place.invariant (λ lt. eq-eqb _ _ c.if-text-place-eq46.true))

pub returns-clause-place : goal.returns-clause-place
returns-clause-place c = sym (position_or_len_is is_point c.args.text.now (length c.args.text.now) 0 (omega arith) (λ k lt. c.loop-place.invariant k (omega arith)) (λ lt. absurd (omega arith)))
