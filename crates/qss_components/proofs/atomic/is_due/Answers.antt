-- The next transition is at the tick where it is that tick.
use Rattle.qss_components.proofs.Common.{ℕ, ◌∙◌, ap, eqb-false, eqb-true, Option, Some, subst, sym}
use Rattle.qss_components.proofs.Ticks.{same_tick, none_next}
use Rattle.qss_components.proofs.atomic.is_due.Goals as goal

pub returns-in-Some-clause-due : goal.returns-in-Some-clause-due
returns-in-Some-clause-due g c =
    λ e. subst (λ (o : Option ℕ). g.A.Atomic.is_next c.args.model.now o) (c.in-Some.is ∙ ap (λ (n : ℕ). Some n) (eqb-true c.in-Some.next c.args.tick e)) c.advance.ensures.next

pub returns-in-Some-clause-other : goal.returns-in-Some-clause-other
returns-in-Some-clause-other g c =
    λ e is. eqb-false c.in-Some.next c.args.tick e (sym (same_tick c.args.tick c.in-Some.next c.advance.result (c.advance.ensures.only (Some c.args.tick) is) c.in-Some.is))

pub returns-in-Some-clause-only : goal.returns-in-Some-clause-only
returns-in-Some-clause-only g c n e is = same_tick n c.in-Some.next c.advance.result (c.advance.ensures.only (Some n) is) c.in-Some.is ∙ eqb-true c.in-Some.next c.args.tick e

pub returns-in-Some-clause-next : goal.returns-in-Some-clause-next
returns-in-Some-clause-next g c = (c.advance.result, c.advance.ensures.next)

pub returns-in-None-clause-other : goal.returns-in-None-clause-other
returns-in-None-clause-other g c = λ e is. none_next c.args.tick c.advance.result (c.advance.ensures.only (Some c.args.tick) is) c.in-None.is

pub returns-in-None-clause-next : goal.returns-in-None-clause-next
returns-in-None-clause-next g c = (c.advance.result, c.advance.ensures.next)
