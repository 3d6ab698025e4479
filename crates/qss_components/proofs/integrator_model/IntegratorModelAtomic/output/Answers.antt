-- There is a message where there is a next transition.
use Rattle.qss_components.proofs.Common
use Common.{◌<◌, ◌∙◌, ap, FitsSigned, IsAnswer, IsLineNext, level_unit, Machine, refl, Some}
use Common.{state_at, state_count, subst, sym, to_z-of_z, w128}
use Rattle.qss_components.proofs.Ticks.{same_tick, none_next}
use Rattle.qss_components.proofs.integrator_model.IntegratorModelAtomic.output.Goals as goal

pub level_on_leaving-level-requires-clause-known : goal.level_on_leaving-level-requires-clause-known
level_on_leaving-level-requires-clause-known g c = subst (λ (m : Machine). c.args.self.now.var < state_count m) (sym c.deref.ensures) c.args.self.now.known

pub level_on_leaving-level-requires-clause-next : goal.level_on_leaving-level-requires-clause-next
level_on_leaving-level-requires-clause-next g c =
    let i = c.args.self.now in
    subst (λ (m : Machine). IsLineNext m i.var i.line (Some c.in_ok-tick.tick)) (sym c.deref.ensures) (subst (IsLineNext i.machine.value i.var i.line) c.in_ok-tick.was c.advance.ensures.next)

pub returns-clause-when : goal.returns-clause-when
returns-clause-when g c next is = rw (c.advance.ensures.only next is ∙ c.in_ok-tick.was) (λ e. refl, λ e. refl)

pub returns-clause-what : goal.returns-clause-what
returns-clause-what g c tick is =
    let i = c.args.self.now in
    let m = i.machine.value in
    let answer = c.level_on_leaving-level.result in
    let level : FitsSigned w128 answer = record { sfits = c.level_on_leaving-level.type_inv } in
    let allowed : IsAnswer i.quantizer.value.name (state_at i.line c.in_ok-tick.tick) i.line.level (level_unit m) answer =
    subst (λ q. IsAnswer q (state_at i.line c.in_ok-tick.tick) i.line.level (level_unit m) answer) (ap (λ q. q.name) c.deref-2.ensures)
    (subst (λ (s : Machine). IsAnswer c.deref-2.result.now.name (state_at i.line c.in_ok-tick.tick) i.line.level (level_unit s) answer) c.deref.ensures c.level_on_leaving-level.ensures.allowed) in
    let ruled = rw (c.deref-2.ensures, c.deref.ensures) at c.level_on_leaving-level.ensures.ruled in
    rw (same_tick tick c.in_ok-tick.tick c.advance.result (c.advance.ensures.only (Some tick) is) c.in_ok-tick.was, to_z-of_z w128 answer level) (record { level = answer; allowed = allowed; ruled = ruled; told = refl })

pub returns-in_err-tick-clause-what : goal.returns-in_err-tick-clause-what
returns-in_err-tick-clause-what g c tick is = absurd (none_next tick c.advance.result (c.advance.ensures.only (Some tick) is) c.in_err-tick.was)
