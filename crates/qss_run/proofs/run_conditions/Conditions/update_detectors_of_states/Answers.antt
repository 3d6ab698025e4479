-- The conditions that read one more state have their speeds.
use Rattle.qss_run.proofs.Common
use Common.{ℕ, ◌<◌, ◌∙◌, All, AreDetectorsUpdated, arith, conditions, conditions_below}
use Common.{conditions_kept, conditions_many, get_or, length, List, lists_more, readers_of}
use Common.{reading_conditions, subst, sym, take, take_all}
use Rattle.qss_run.proofs.OwnConditions.{still_goes, rewatched_more}
use Rattle.qss_run.proofs.run_conditions.Conditions.update_detectors_of_states.Goals as goal

pub conditions_of-places-requires : goal.conditions_of-places-requires
conditions_of-places-requires c =
    let known = c.requires.known c.loop-state.state-index 0 c.loop-state-test.true in
    omega (arith, known, conditions_many c.args.at.now.machine.now c.args.at.now.uses.now c.requires.uses)

pub update_detectors_at-requires-clause-known : goal.update_detectors_at-requires-clause-known
update_detectors_at-requires-clause-known c =
    let m = c.args.at.now.machine.now in
    let known = c.requires.known c.loop-state.state-index 0 c.loop-state-test.true in
    subst (All (λ place. place < length (conditions m))) (sym c.conditions_of-places.ensures)
    (conditions_below m c.args.at.now.uses.now c.requires.uses (get_or c.args.states.now c.loop-state.state-index 0) (omega (arith, known)) (length (conditions m)) (omega arith))

pub update_detectors_at-requires-clause-ready : goal.update_detectors_at-requires-clause-ready
update_detectors_at-requires-clause-ready c = still_goes c.args.at.now _ _ _ _ _ c.requires.ready c.loop-state.invariant

pub loop-state-preserved : goal.loop-state-preserved
loop-state-preserved c =
    let m = c.args.at.now.machine.now in
    let i : ℕ = c.loop-state.state-index in
    let state : ℕ = get_or c.args.states.now i 0 in
    let known = c.requires.known i 0 c.loop-state-test.true in
    rewatched_more c.args.at.now (readers_of m (take i c.args.states.now)) (reading_conditions m state) _ _ _ _ _ _ _ _ c.loop-state.invariant
    (c.conditions_of-places.ensures ∙ conditions_kept m c.args.at.now.uses.now c.requires.uses state (omega (arith, known)))
    (lists_more (reading_conditions m) c.args.states.now i c.loop-state-test.true) c.update_detectors_at.ensures

pub returns : goal.returns
returns c =
    subst (λ (states : List ℕ). AreDetectorsUpdated c.args.at.now (readers_of c.args.at.now.machine.now states) c.args.self.now c.loop-state.self c.args.agenda.now c.loop-state.agenda)
    (take_all c.loop-state.state-index c.args.states.now c.loop-state-test.false) c.loop-state.invariant
