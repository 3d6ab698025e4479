-- One more condition is settled.
use Rattle.qss_run.proofs.Common
use Common.{[], ℕ, ◌∷◌, AreSettledAlong, get_or, List, refl, subst, take, take_all, take_more}
use Rattle.qss_run.proofs.OwnConditions.{none_along, along_more, still_settles}
use Rattle.qss_run.proofs.run_conditions.Conditions.settle_detectors_at.Goals as goal

pub loop-place-init : goal.loop-place-init
loop-place-init c = none_along c.args.at.now c.args.self.now c.args.agenda.now c.args.work.now c.requires.ready

pub settle_detector_along-requires-clause-ready : goal.settle_detector_along-requires-clause-ready
settle_detector_along-requires-clause-ready c = still_settles c.args.at.now _ _ _ _ _ _ _ c.requires.ready c.loop-place.invariant

pub loop-place-preserved : goal.loop-place-preserved
loop-place-preserved c =
    let i : ℕ = c.loop-place.place-index in
    along_more c.args.at.now (take i c.args.places.now) (get_or c.args.places.now i 0 ∷ []) _ _ _ _ _ _ _ _ _ _ _ c.loop-place.invariant refl (take_more c.args.places.now i 0 c.loop-place-test.true)
    c.settle_detector_along.ensures

pub returns : goal.returns
returns c =
    subst (λ (places : List ℕ). AreSettledAlong c.args.at.now places c.args.self.now c.loop-place.self c.args.agenda.now c.loop-place.agenda c.args.work.now c.loop-place.work)
    (take_all c.loop-place.place-index c.args.places.now c.loop-place-test.false) c.loop-place.invariant
