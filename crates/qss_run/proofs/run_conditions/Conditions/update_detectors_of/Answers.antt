-- The conditions that read a state whose row reads one more moved state have their speeds.
use Rattle.qss_run.proofs.Common
use Common.{ℕ, ◌<◌, ◌∙◌, ◌≡◌, All, ap, arith, flat_map, get_or, HasSpeed, List, lists_more}
use Common.{readers_of, reading_rows, rows_below, rows_kept, rows_many, state_count, subst, sym}
use Common.{take, take_all}
use Rattle.qss_run.proofs.OwnConditions.{still_goes, rewatched_more}
use Rattle.qss_run.proofs.Speeds.{watched_again}
use Rattle.qss_run.proofs.run_conditions.Conditions.update_detectors_of.Goals as goal

pub rows_of-states-requires : goal.rows_of-states-requires
rows_of-states-requires c =
    let known = c.requires.moved.below c.loop-state.state-index 0 c.loop-state-test.true in
    omega (arith, known, rows_many c.args.at.now.machine.now c.args.at.now.uses.now c.requires.uses)

pub update_detectors_of_states-requires-clause-known : goal.update_detectors_of_states-requires-clause-known
update_detectors_of_states-requires-clause-known c =
    let known = c.requires.moved.below c.loop-state.state-index 0 c.loop-state-test.true in
    subst (All (λ state. state < state_count c.args.at.now.machine.now)) (sym c.rows_of-states.ensures)
    (rows_below c.args.at.now.machine.now c.args.at.now.uses.now c.requires.uses (get_or c.args.moved.now c.loop-state.state-index 0) (omega (arith, known)) (state_count c.args.at.now.machine.now) (omega arith))

pub update_detectors_of_states-requires-clause-ready : goal.update_detectors_of_states-requires-clause-ready
update_detectors_of_states-requires-clause-ready c = still_goes c.args.at.now _ _ _ _ _ c.requires.ready c.loop-state.invariant

pub loop-state-preserved : goal.loop-state-preserved
loop-state-preserved c =
    let m = c.args.at.now.machine.now in
    let i : ℕ = c.loop-state.state-index in
    let mover : ℕ = get_or c.args.moved.now i 0 in
    let known = c.requires.moved.below i 0 c.loop-state-test.true in
    let readers : ℕ → List ℕ = λ j. readers_of m (reading_rows m j) in
    rewatched_more c.args.at.now (flat_map readers (take i c.args.moved.now)) (readers mover) _ _ _ _ _ _ _ _ c.loop-state.invariant
    (ap (readers_of m) (c.rows_of-states.ensures ∙ rows_kept m c.args.at.now.uses.now c.requires.uses mover (omega (arith, known))))
    (lists_more readers c.args.moved.now i c.loop-state-test.true) c.update_detectors_of_states.ensures

pub returns : goal.returns
returns c =
    let m = c.args.at.now.machine.now in
    let detectors = c.loop-state.self.detectors.items in
    let done = c.loop-state.invariant in
    let all : flat_map (λ j. readers_of m (reading_rows m j)) (take c.loop-state.state-index c.args.moved.now) ≡ flat_map (λ j. readers_of m (reading_rows m j)) c.args.moved.now = ap (flat_map (λ j. readers_of m (reading_rows m j))) (take_all c.loop-state.state-index c.args.moved.now c.loop-state-test.false) in
    record {
      detectors = watched_again m c.args.at.now.tick c.args.at.now.slopes.now c.args.moved.now c.args.self.now.detectors.items detectors c.args.agenda.now c.loop-state.agenda done.goes_on
          c.requires.ready.slopes_of.as_many c.requires.ready.fits.detectors (subst (All (HasSpeed m c.args.at.now.slopes.now detectors)) all done.speeds);
      goes_on = done.goes_on;
      same = done.same;
    }
