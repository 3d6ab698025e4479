-- A condition that became true is found, since it is one of those apart.
use Rattle.qss_run.proofs.Common.{◌∙◌, ◌≡◌, arith, became_true, false, get_or, sym}
use Rattle.qss_events.proofs.Risen.{none_due, some_due}
use Rattle.std.proofs.Common.{below_more}
use Rattle.qss_run.proofs.Apart.{apart_at}
use Rattle.qss_run.proofs.Called.{none_but_these}
use Rattle.qss_run.proofs.run_conditions.Conditions.has_risen.Goals as goal

pub is_risen-requires-clause-place : goal.is_risen-requires-clause-place
is_risen-requires-clause-place c = (apart_at c.args.self.now c.places-flipped.result.now c.requires c.places-flipped.ensures.places c.places-flipped.ensures.below).below c.loop-condition.condition-index 0 c.loop-condition-test.true

pub returns-then-is_risen : goal.returns-then-is_risen
returns-then-is_risen c =
    sym (some_due c.args.self.now.at_arrival.items c.args.self.now.after_handlers.items c.requires.as_many (get_or c.places-flipped.result.now c.loop-condition.condition-index 0) (sym c.is_risen.ensures ∙ c.if-is_risen.true))

pub loop-condition-preserved : goal.loop-condition-preserved
loop-condition-preserved c =
    below_more (λ k. became_true c.args.self.now.at_arrival.items c.args.self.now.after_handlers.items (get_or c.places-flipped.result.now k 0) ≡ false) c.loop-condition.condition-index c.loop-condition.invariant
    (sym c.is_risen.ensures ∙ c.if-is_risen.false)

pub returns : goal.returns
returns c =
    sym (none_due c.args.self.now.at_arrival.items c.args.self.now.after_handlers.items c.requires.as_many
    (λ place h. none_but_these c.places-flipped.result.now c.args.self.now.at_arrival.items c.args.self.now.after_handlers.items (apart_at c.args.self.now c.places-flipped.result.now c.requires c.places-flipped.ensures.places c.places-flipped.ensures.below).alike
    (λ k inside. c.loop-condition.invariant k (omega (arith, inside, c.loop-condition-test.false))) place))
