-- The detector moves to the tick at which its truth changes.
use Rattle.qss_components.proofs.Common
use Common.{◌≡◌, ◌≤◌, ap, arith, Crossing, DetectorView, holds_at, IsCrossingNext, refl, Some}
use Common.{subst, Truth}
use Rattle.qss_components.proofs.Inputs.{lines_later}
use Rattle.qss_components.proofs.Ticks.{same_tick, none_next}
use Rattle.qss_components.proofs.crossing_model.CrossingModelAtomic.internal.Goals as goal

pub crossing_detector_at_change-self-requires : goal.crossing_detector_at_change-self-requires
crossing_detector_at_change-self-requires c = subst (IsCrossingNext c.args.self.now.detector) c.in-Some.is c.advance.ensures.next

pub invariant_of-self : goal.invariant_of-self
invariant_of-self c =
    let x = c.args.self.now in
    let next : IsCrossingNext x.detector (Some c.in-Some.tick) = subst (IsCrossingNext x.detector) c.in-Some.is c.advance.ensures.next in
    let own : c.crossing_detector_at_change-self.result.tick ≡ c.in-Some.tick = ap (λ (w : DetectorView). w.tick) c.crossing_detector_at_change-self.ensures.moved in
    let later : x.detector.tick ≤ c.crossing_detector_at_change-self.result.tick = omega (arith, own, next.later) in
    record { lines = lines_later x.detector.tick c.crossing_detector_at_change-self.result.tick x.inputs.items later x.lines; stays = x.stays; parts = x.parts }

pub returns-in-Some-clause-turned : goal.returns-in-Some-clause-turned
returns-in-Some-clause-turned c tick is =
    let x = c.args.self.now in
    let old : Crossing = record { place = x.place; detector = x.detector; inputs = x.inputs.items; time = x.time; gamma = x.gamma } in
    rw (same_tick tick c.in-Some.tick c.advance.result (c.advance.ensures.only (Some tick) is) c.in-Some.is)
    (Truth x.place (holds_at x.detector c.in-Some.tick), refl, (refl, ap (λ (w : DetectorView). record old { detector = w }) c.crossing_detector_at_change-self.ensures.moved))

pub returns-in-Some-clause-later : goal.returns-in-Some-clause-later
returns-in-Some-clause-later c tick next is after =
    let same : tick ≡ c.in-Some.tick = same_tick tick c.in-Some.tick c.advance.result (c.advance.ensures.only (Some tick) is) c.in-Some.is in
    omega (arith, same, c.crossing_detector_at_change-self.ensures.later next after)

pub returns-in_default-clause-turned : goal.returns-in_default-clause-turned
returns-in_default-clause-turned c tick is = absurd (none_next tick c.advance.result (c.advance.ensures.only (Some tick) is) c.in_default.is)

pub returns-in_default-clause-later : goal.returns-in_default-clause-later
returns-in_default-clause-later c tick next is after = absurd (none_next tick c.advance.result (c.advance.ensures.only (Some tick) is) c.in_default.is)
