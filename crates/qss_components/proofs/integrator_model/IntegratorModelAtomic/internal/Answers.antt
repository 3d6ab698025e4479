-- The line takes a level that the rule allows.
use Rattle.qss_components.proofs.Common
use Common.{◌<◌, ◌≡◌, ap, arith, FitsSigned, IsAnswer, IsLineNext, IsWithinOneLevel, Level}
use Common.{level_unit, Machine, refl, Some, state_at, state_count, subst, sym, to_z-of_z, w128}
use Rattle.qss_components.proofs.Ticks.{same_tick, none_next}
use Rattle.qss_components.proofs.integrator_model.IntegratorModelAtomic.internal.Goals as goal

pub level_on_leaving-level-requires-clause-known : goal.level_on_leaving-level-requires-clause-known
level_on_leaving-level-requires-clause-known g c = subst (λ (m : Machine). c.args.self.now.var < state_count m) (sym c.deref.ensures) c.args.self.now.known

pub level_on_leaving-level-requires-clause-next : goal.level_on_leaving-level-requires-clause-next
level_on_leaving-level-requires-clause-next g c =
    let i = c.args.self.now in
    subst (λ (m : Machine). IsLineNext m i.var i.line (Some c.in-Some.tick)) (sym c.deref.ensures) (subst (IsLineNext i.machine.value i.var i.line) c.in-Some.is c.advance.ensures.next)

pub taken-self-requires-clause-next : goal.taken-self-requires-clause-next
taken-self-requires-clause-next g c =
    let i = c.args.self.now in
    subst (IsLineNext i.machine.value i.var i.line) c.in-Some.is c.advance.ensures.next

pub taken-self-requires-clause-close : goal.taken-self-requires-clause-close
taken-self-requires-clause-close g c =
    let i = c.args.self.now in
    let level : FitsSigned w128 c.level_on_leaving-level.result = record { sfits = c.level_on_leaving-level.type_inv } in
    rw (to_z-of_z w128 c.level_on_leaving-level.result level)
    (subst (λ (m : Machine). IsWithinOneLevel (level_unit m) (state_at i.line c.in-Some.tick) i.line.level c.level_on_leaving-level.result) c.deref.ensures c.level_on_leaving-level.ensures.allowed.close)

pub taken-self-requires-clause-size_limit : goal.taken-self-requires-clause-size_limit
taken-self-requires-clause-size_limit g c =
    let i = c.args.self.now in
    let m = i.machine.value in
    let answer = c.level_on_leaving-level.result in
    let level : FitsSigned w128 answer = record { sfits = c.level_on_leaving-level.type_inv } in
    let next : IsLineNext m i.var i.line (Some c.in-Some.tick) = subst (IsLineNext m i.var i.line) c.in-Some.is c.advance.ensures.next in
    let allowed : IsAnswer i.quantizer.value.name (state_at i.line c.in-Some.tick) i.line.level (level_unit m) answer =
    subst (λ q. IsAnswer q (state_at i.line c.in-Some.tick) i.line.level (level_unit m) answer) (ap (λ q. q.name) c.deref-in-Some.ensures)
    (subst (λ (s : Machine). IsAnswer c.deref-in-Some.result.now.name (state_at i.line c.in-Some.tick) i.line.level (level_unit s) answer) c.deref.ensures c.level_on_leaving-level.ensures.allowed) in
    let ruled = rw (c.deref-in-Some.ensures, c.deref.ensures) at c.level_on_leaving-level.ensures.ruled in
    rw (to_z-of_z w128 answer level) (c.requires.size_limit c.in-Some.tick (Level i.var answer) next (record { level = answer; allowed = allowed; ruled = ruled; told = refl }))

pub returns-in-Some-clause-turned : goal.returns-in-Some-clause-turned
returns-in-Some-clause-turned g c tick is =
    let i = c.args.self.now in
    let m = i.machine.value in
    let answer = c.level_on_leaving-level.result in
    let level : FitsSigned w128 answer = record { sfits = c.level_on_leaving-level.type_inv } in
    let allowed : IsAnswer i.quantizer.value.name (state_at i.line c.in-Some.tick) i.line.level (level_unit m) answer =
    subst (λ q. IsAnswer q (state_at i.line c.in-Some.tick) i.line.level (level_unit m) answer) (ap (λ q. q.name) c.deref-in-Some.ensures)
    (subst (λ (s : Machine). IsAnswer c.deref-in-Some.result.now.name (state_at i.line c.in-Some.tick) i.line.level (level_unit s) answer) c.deref.ensures c.level_on_leaving-level.ensures.allowed) in
    let ruled = rw (c.deref-in-Some.ensures, c.deref.ensures) at c.level_on_leaving-level.ensures.ruled in
    let taken = simp to_z-of_z at c.taken-self.ensures.taken in
    rw (same_tick tick c.in-Some.tick c.advance.result (c.advance.ensures.only (Some tick) is) c.in-Some.is)
    (Level i.var answer, record { level = answer; allowed = allowed; ruled = ruled; told = refl }, (refl, refl, refl, record { level = answer; told = refl; taken = taken }))

pub returns-in-Some-clause-later : goal.returns-in-Some-clause-later
returns-in-Some-clause-later g c tick next is after =
    let same : tick ≡ c.in-Some.tick = same_tick tick c.in-Some.tick c.advance.result (c.advance.ensures.only (Some tick) is) c.in-Some.is in
    omega (arith, same, c.taken-self.ensures.later next after)

pub returns-in_default-clause-turned : goal.returns-in_default-clause-turned
returns-in_default-clause-turned g c tick is = absurd (none_next tick c.advance.result (c.advance.ensures.only (Some tick) is) c.in_default.is)

pub returns-in_default-clause-later : goal.returns-in_default-clause-later
returns-in_default-clause-later g c tick next is after = absurd (none_next tick c.advance.result (c.advance.ensures.only (Some tick) is) c.in_default.is)
