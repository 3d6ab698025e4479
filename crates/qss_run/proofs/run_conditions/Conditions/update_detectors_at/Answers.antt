-- One more condition has its speed.
use Rattle.qss_run.proofs.Common
use Common.{[], ℕ, ◌∷◌, AreDetectorsUpdated, get_or, List, refl, subst, take, take_all, take_more}
use Rattle.qss_run.proofs.OwnConditions.{still_goes, rewatched_more}
use Rattle.qss_run.proofs.run_conditions.Conditions.update_detectors_at.Goals as goal

pub update_detector-requires-clause-ready : goal.update_detector-requires-clause-ready
update_detector-requires-clause-ready c = still_goes c.args.at.now _ _ _ _ _ c.requires.ready c.loop-place.invariant

pub loop-place-preserved : goal.loop-place-preserved
loop-place-preserved c =
    let i : ℕ = c.loop-place.place-index in
    rewatched_more c.args.at.now (take i c.args.places.now) (get_or c.args.places.now i 0 ∷ []) _ _ _ _ _ _ _ _ c.loop-place.invariant refl
    (take_more c.args.places.now i 0 c.loop-place-test.true) c.update_detector.ensures

pub returns : goal.returns
returns c =
    subst (λ (places : List ℕ). AreDetectorsUpdated c.args.at.now places c.args.self.now c.loop-place.self c.args.agenda.now c.loop-place.agenda)
    (take_all c.loop-place.place-index c.args.places.now c.loop-place-test.false) c.loop-place.invariant
