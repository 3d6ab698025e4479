-- The next transition is not before the earlier tick.
use Rattle.qss_components.proofs.Common.{ℕ, ◌≡◌, arith, Option, Some, subst}
use Rattle.qss_components.proofs.Ticks.{same_tick, none_next}
use Rattle.qss_components.proofs.atomic.earlier_atomic_advance.Goals as goal

pub returns-then-next-least-clause-not_past : goal.returns-then-next-least-clause-not_past
returns-then-next-least-clause-not_past g c n is =
    let same : n ≡ c.in-Some.next = same_tick n c.in-Some.next c.advance.result (c.advance.ensures.only (Some n) is) c.in-Some.is in
    omega (arith, same)

pub returns-then-next-least-clause-later : goal.returns-then-next-least-clause-later
returns-then-next-least-clause-later g c tick below all = all c.in-Some.next (subst (λ (o : Option ℕ). g.A.Atomic.is_next c.args.model.now o) c.in-Some.is c.advance.ensures.next)

pub returns-then-next-least-clause-due : goal.returns-then-next-least-clause-due
returns-then-next-least-clause-due g c = (c.advance.result, c.advance.ensures.next)

pub returns-else-next-least-clause-not_past : goal.returns-else-next-least-clause-not_past
returns-else-next-least-clause-not_past g c n is =
    let same : n ≡ c.in-Some.next = same_tick n c.in-Some.next c.advance.result (c.advance.ensures.only (Some n) is) c.in-Some.is in
    omega (arith, same, c.if-next-least.false)

pub returns-else-next-least-clause-later : goal.returns-else-next-least-clause-later
returns-else-next-least-clause-later g c tick below all = below

pub returns-else-next-least-clause-due : goal.returns-else-next-least-clause-due
returns-else-next-least-clause-due g c = (c.advance.result, c.advance.ensures.next)

pub returns-in-None-clause-not_past : goal.returns-in-None-clause-not_past
returns-in-None-clause-not_past g c n is = absurd (none_next n c.advance.result (c.advance.ensures.only (Some n) is) c.in-None.is)

pub returns-in-None-clause-later : goal.returns-in-None-clause-later
returns-in-None-clause-later g c tick below all = below

pub returns-in-None-clause-due : goal.returns-in-None-clause-due
returns-in-None-clause-due g c = (c.advance.result, c.advance.ensures.next)
