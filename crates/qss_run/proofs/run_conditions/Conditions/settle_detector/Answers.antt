-- One condition is settled.
use Rattle.qss_run.proofs.Common
use Common.{◌&&◌, ◌+◌, ◌==◌, ◌||◌, ◌∙◌, ◌≡◌, ap, arith, Bool, compares, Condition, condition_at}
use Common.{Conditions, conditions_few, detector_states_of, DetectorView, differ, flag_at}
use Common.{is_listed, length, length-set, refl, set, state_count, sym, truth, with_items}
use Common.{with_items_is}
use Rattle.qss_run.proofs.Apart.{one_noted}
use Rattle.qss_run.proofs.Rewatching.{one_settled}
use Rattle.qss_run.proofs.Watched.{watch_is}
use Rattle.qss_run.proofs.run_conditions.Conditions.settle_detector.Goals as goal

pub overflow_add-at : goal.overflow_add-at
overflow_add-at c =
    let m = c.args.m.now in omega (arith, c.requires.place, c.requires.allowed.point.slopes.as_many, conditions_few m, m.has_variables.few)

pub returns-clause-after_handlers : goal.returns-clause-after_handlers
returns-clause-after_handlers c =
    let m = c.args.m.now in
    let at = c.args.at.now in
    let place = c.args.place in
    let all : Conditions = c.args.self.now in
    let fits = c.requires.allowed.fits in
    let detector : DetectorView = c.detector_at_values-detector.result in
    let own : c.condition-condition.result.now ≡ condition_at m place = c.condition-condition.ensures.value in
    let dues : c.set.new.self ≡ set c.args.agenda.now (state_count m + place) c.next_change.result = c.set.ensures ∙ ap (λ n. set c.args.agenda.now (n + place) c.next_change.result) c.requires.allowed.point.slopes.as_many in
    let detectors = with_items_is all.detectors (set c.as_mut_slice-detectors.result.now place detector) (length-set c.as_mut_slice-detectors.result.now place detector ∙ c.as_mut_slice-detectors.ensures.len)
    ∙ ap (λ ws. set ws place detector) c.as_mut_slice-detectors.ensures.value in
    let after_handlers = with_items_is all.after_handlers (set c.as_mut_slice-after_handlers.result.now place c.truth-holds.result)
    (length-set c.as_mut_slice-after_handlers.result.now place c.truth-holds.result ∙ c.as_mut_slice-after_handlers.ensures.len)
    ∙ ap (λ flags. set flags place c.truth-holds.result) c.as_mut_slice-after_handlers.ensures.value in
    one_settled m at.tick at.states.now at.discretes.now at.slopes.now place (detector_states_of all c.args.agenda.now)
    (record {
      detectors = (with_items all.detectors (set c.as_mut_slice-detectors.result.now place detector)).items;
      after_handlers = (with_items all.after_handlers (set c.as_mut_slice-after_handlers.result.now place c.truth-holds.result)).items;
      dues = c.set.new.self;
    })
    detector c.truth-holds.result c.next_change.result (omega (arith, c.requires.place, fits.detectors)) (omega (arith, c.requires.place, fits.after_handlers)) (omega (arith, c.requires.place, c.requires.allowed.places))
    detectors after_handlers dues
    (watch_is m at.tick at.states.now at.discretes.now at.slopes.now place c.condition-condition.result.now detector c.next_change.result c.detector_at_values-detector.ensures own c.next_change.ensures)
    (c.truth-holds.ensures ∙ ap (λ (w : DetectorView). compares w.rel w.value) c.detector_at_values-detector.ensures ∙ ap (λ (condition : Condition). truth m condition at.states.now at.discretes.now at.tick) own)

pub mark_changed_detector-requires-clause-place : goal.mark_changed_detector-requires-clause-place
mark_changed_detector-requires-clause-place c = omega (arith, c.requires.place, c.requires.allowed.fits.at_arrival, ap length c.deref.ensures.value)

pub mark_changed_detector-requires-clause-count : goal.mark_changed_detector-requires-clause-count
mark_changed_detector-requires-clause-count c = c.requires.allowed.fits.flipped ∙ sym (ap length c.deref.ensures.value ∙ c.requires.allowed.fits.at_arrival)

pub returns-clause-noted : goal.returns-clause-noted
returns-clause-noted c =
    let place = c.args.place in
    let all : Conditions = c.args.self.now in
    let holds = c.truth-holds.result in
    let after_handlers = with_items_is all.after_handlers (set c.as_mut_slice-after_handlers.result.now place holds) (length-set c.as_mut_slice-after_handlers.result.now place holds ∙ c.as_mut_slice-after_handlers.ensures.len)
    ∙ ap (λ flags. set flags place holds) c.as_mut_slice-after_handlers.ensures.value in
    one_noted place holds all _ (omega (arith, c.requires.place, c.requires.allowed.fits.after_handlers)) refl after_handlers c.mark_changed_detector.ensures.count
    (λ other. c.mark_changed_detector.ensures.places other ∙ ap (λ flags. is_listed all.flipped.places other || (place == other && differ holds (flag_at flags place))) c.deref.ensures.value)

pub returns-clause-flipped : goal.returns-clause-flipped
returns-clause-flipped c other =
    let m = c.args.m.now in
    let at = c.args.at.now in
    let place = c.args.place in
    let all : Conditions = c.args.self.now in
    let own : c.condition-condition.result.now ≡ condition_at m place = c.condition-condition.ensures.value in
    let holds : c.truth-holds.result ≡ truth m (condition_at m place) at.states.now at.discretes.now at.tick = c.truth-holds.ensures ∙ ap (λ (w : DetectorView). compares w.rel w.value) c.detector_at_values-detector.ensures ∙ ap (λ (condition : Condition). truth m condition at.states.now at.discretes.now at.tick) own in
    c.mark_changed_detector.ensures.places other
    ∙ ap (λ flags. is_listed all.flipped.places other || (place == other && differ c.truth-holds.result (flag_at flags place))) c.deref.ensures.value
    ∙ ap (λ (b : Bool). is_listed all.flipped.places other || (place == other && differ b (flag_at all.at_arrival.items place))) holds
