-- A condition that became true is found.
use Rattle.qss_events.proofs.Common.{◌∙◌, arith, cases_Bool, inl, inr, sym}
use Rattle.qss_events.proofs.Risen.{none_due, some_due}
use Rattle.qss_events.proofs.event_outcome.has_event_condition_risen.Goals as goal

pub returns : goal.returns
returns c = elim (cases_Bool c.loop-place.risen) [
  | inl risen ↦ risen ∙ sym (some_due c.args.at_arrival.now c.args.after_handlers.now c.requires (c.loop-place.invariant.some risen).0 (c.loop-place.invariant.some risen).1)
  | inr none ↦ none ∙ sym (none_due c.args.at_arrival.now c.args.after_handlers.now c.requires (λ place h. c.loop-place.invariant.none none place (omega (arith, h, c.loop-place-test.false))))
]
