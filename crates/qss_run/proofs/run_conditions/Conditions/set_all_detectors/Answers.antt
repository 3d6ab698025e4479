-- One more condition is settled.
use Rattle.qss_run.proofs.Common
use Common.{[], ℕ, ◌∙◌, ◌∷◌, ◌≤◌, AreSettled, arith, conditions, conditions_few, detector_states_of}
use Common.{length, List, refl, subst, sym, truths_are}
use Rattle.qss_run.proofs.OwnConditions.{settled_fits, rest_then}
use Rattle.qss_run.proofs.Rewatching.{all_below, all_below-more, among_below, none_settled}
use Rattle.qss_run.proofs.Rewatching.{settled_then}
use Rattle.qss_run.proofs.run_conditions.Conditions.set_all_detectors.Goals as goal

pub loop-place-init : goal.loop-place-init
loop-place-init c =
    let at = c.args.at.now in
    record { after_handlers = none_settled c.args.m.now at.tick at.states.now at.discretes.now at.slopes.now (detector_states_of c.args.self.now c.args.agenda.now); count = refl; rest = refl }

pub overflow_cast-place : goal.overflow_cast-place
overflow_cast-place c =
    omega (arith, c.len-place-end.ensures, c.args.self.now.branches.ok.0, c.requires.fits.branches.as_many, c.loop-place-test.true, conditions_few c.args.m.now)

pub settle_detector-requires-clause-allowed : goal.settle_detector-requires-clause-allowed
settle_detector-requires-clause-allowed c =
    let inv = c.loop-place.invariant in
    record {
      fits = settled_fits c.args.m.now c.args.self.now c.loop-place.self c.requires.fits inv.rest inv.after_handlers.many_watches inv.after_handlers.many_truths inv.count;
      point = c.requires.point;
      places = omega (arith, c.requires.places, inv.after_handlers.many_dues);
    }

pub loop-place-preserved : goal.loop-place-preserved
loop-place-preserved c =
    let m = c.args.m.now in
    let at = c.args.at.now in
    let inv = c.loop-place.invariant in
    let first = detector_states_of c.args.self.now c.args.agenda.now in
    let after = detector_states_of c.settle_detector.new.self c.settle_detector.new.agenda in
    record {
      after_handlers = subst (λ (places : List ℕ). AreSettled m at.tick at.states.now at.discretes.now at.slopes.now places first after) (sym (all_below-more c.loop-place.place))
          (settled_then m at.tick at.states.now at.discretes.now at.slopes.now (all_below c.loop-place.place) (c.loop-place.place ∷ []) first (detector_states_of c.loop-place.self c.loop-place.agenda) after
          inv.after_handlers c.settle_detector.ensures.after_handlers);
      count = c.settle_detector.ensures.noted.count ∙ inv.count;
      rest = rest_then c.args.self.now c.loop-place.self c.settle_detector.new.self inv.rest c.settle_detector.ensures.rest;
    }

pub returns : goal.returns
returns c =
    let m = c.args.m.now in
    let at = c.args.at.now in
    let fits = c.requires.fits in
    let inv = c.loop-place.invariant in
    let past : length (conditions m) ≤ c.loop-place.place = omega (arith, c.len-place-end.ensures, c.args.self.now.branches.ok.0, fits.branches.as_many, c.loop-place-test.false) in
    record {
      after_handlers = truths_are m at.states.now at.discretes.now at.tick c.loop-place.self.after_handlers.items (inv.after_handlers.many_truths ∙ fits.after_handlers)
          (λ k h. (inv.after_handlers.own k (among_below c.loop-place.place k (omega (arith, h, past)))).own_truth);
      detectors = λ place h. (inv.after_handlers.own place (among_below c.loop-place.place place (omega (arith, h, past)))).watched;
      rest = inv.rest;
      fits = settled_fits m c.args.self.now c.loop-place.self fits inv.rest inv.after_handlers.many_watches inv.after_handlers.many_truths inv.count;
      places = inv.after_handlers.many_dues;
      others = inv.after_handlers.states;
      beyond = λ place h. inv.after_handlers.beyond place (omega (arith, h, fits.detectors));
    }
