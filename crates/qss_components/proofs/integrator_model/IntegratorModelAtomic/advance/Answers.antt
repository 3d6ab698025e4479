-- The tick is that of the line in the shared machine.
use Rattle.qss_components.proofs.Common.{◌<◌, IsLineNext, state_count, subst, sym}
use Rattle.qss_components.proofs.integrator_model.IntegratorModelAtomic.advance.Goals as goal

pub next_transition_tick-requires : goal.next_transition_tick-requires
next_transition_tick-requires g c = subst (λ m. c.args.self.now.var < state_count m) (sym c.deref.ensures) c.args.self.now.known

pub returns-clause-next : goal.returns-clause-next
returns-clause-next g c = subst (λ m. IsLineNext m c.args.self.now.var c.args.self.now.line c.next_transition_tick.result) c.deref.ensures c.next_transition_tick.ensures.next

pub returns-clause-only : goal.returns-clause-only
returns-clause-only g c next is = c.next_transition_tick.ensures.only next (subst (λ m. IsLineNext m c.args.self.now.var c.args.self.now.line next) (sym c.deref.ensures) is)
