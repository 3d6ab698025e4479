-- One detector goes on.
use Rattle.qss_run.proofs.Common
use Common.{[], ℕ, ◌+◌, ◌<◌, ◌∙◌, ◌∷◌, ◌≡◌, All, All-cons, All-nil, ap, AreSpeedsUpdated, arith}
use Common.{Condition, condition_at, Conditions, conditions_few, detector_at, DetectorView, due_at}
use Common.{FitsSigned, get_or, get_or-set_same, get_or_default, GoesOn, HasSpeed, length}
use Common.{length-set, no_detector, of_z, refl, set, speed_of, state_count, subst, sym, to_z}
use Common.{to_z-of_z, w128, with_items, with_items_is}
use Rattle.qss_run.proofs.Speeds.{going_on_at}
use Rattle.qss_run.proofs.run_conditions.Conditions.update_detector.Goals as goal

pub overflow_cast-entry-2 : goal.overflow_cast-entry-2
overflow_cast-entry-2 c =
    let m = c.args.at.now.machine.now in omega (arith, c.requires.place, c.requires.ready.slopes_of.as_many, conditions_few m, m.has_variables.few)

pub returns : goal.returns
returns c =
    let m = c.args.at.now.machine.now in
    let place = c.args.place in
    let all : Conditions = c.args.self.now in
    let ready = c.requires.ready in
    let n : length c.args.at.now.slopes.now ≡ state_count m = ready.slopes_of.as_many in
    let inside : place < length all.detectors.items = omega (arith, ready.fits.detectors, c.requires.place) in
    let fits : FitsSigned w128 c.detector_speed_at-speed.result = record { sfits = c.detector_speed_at-speed.type_inv } in
    let own : c.condition-condition.result.now ≡ condition_at m place = c.condition-condition.ensures.value in
    let speed = to_z-of_z w128 c.detector_speed_at-speed.result fits ∙ c.detector_speed_at-speed.ensures.value ∙ ap (λ (condition : Condition). speed_of m condition.form c.args.at.now.slopes.now) own in
    let held : c.as_mut_slice-detectors.result.now ≡ all.detectors.items = c.as_mut_slice-detectors.ensures.value in
    let read : get_or c.as_mut_slice-detectors.result.now place c.index-detectors-place.result ≡ detector_at all.detectors.items place = ap (λ ws. get_or ws place c.index-detectors-place.result) held ∙ get_or_default all.detectors.items place c.index-detectors-place.result no_detector inside in
    let detectors : (with_items all.detectors (set c.as_mut_slice-detectors.result.now place c.update_detector_speed.new.detector)).items ≡ set all.detectors.items place c.update_detector_speed.new.detector =
    with_items_is all.detectors (set c.as_mut_slice-detectors.result.now place c.update_detector_speed.new.detector)
    (length-set c.as_mut_slice-detectors.result.now place c.update_detector_speed.new.detector ∙ c.as_mut_slice-detectors.ensures.len) ∙ ap (λ ws. set ws place c.update_detector_speed.new.detector) held in
    let turned : (entry : ℕ) → length c.args.at.now.slopes.now + place ≡ entry →
    GoesOn c.args.at.now.tick (speed_of m (condition_at m place).form c.args.at.now.slopes.now) (detector_at all.detectors.items place) c.update_detector_speed.new.detector (due_at c.args.agenda.now entry) (due_at c.update_detector_speed.new.agenda entry) =
    λ entry e.
    subst (λ k. GoesOn c.args.at.now.tick (speed_of m (condition_at m place).form c.args.at.now.slopes.now) (detector_at all.detectors.items place) c.update_detector_speed.new.detector (due_at c.args.agenda.now k) (due_at c.update_detector_speed.new.agenda k)) e
    (subst (λ z. GoesOn c.args.at.now.tick z (detector_at all.detectors.items place) c.update_detector_speed.new.detector (due_at c.args.agenda.now (length c.args.at.now.slopes.now + place)) (due_at c.update_detector_speed.new.agenda (length c.args.at.now.slopes.now + place))) speed
    (subst (λ (w : DetectorView). GoesOn c.args.at.now.tick (to_z w128 (of_z w128 c.detector_speed_at-speed.result)) w c.update_detector_speed.new.detector (due_at c.args.agenda.now (length c.args.at.now.slopes.now + place)) (due_at c.update_detector_speed.new.agenda (length c.args.at.now.slopes.now + place))) read
    c.update_detector_speed.ensures.goes_on)) in
    let going : AreSpeedsUpdated m c.args.at.now.tick c.args.at.now.slopes.now all.detectors.items (set all.detectors.items place c.update_detector_speed.new.detector) c.args.agenda.now c.update_detector_speed.new.agenda =
    going_on_at m c.args.at.now.tick c.args.at.now.slopes.now all.detectors.items c.args.agenda.now c.update_detector_speed.new.agenda place c.update_detector_speed.new.detector inside ready.small.later c.update_detector_speed.ensures.same.as_many
    (λ other ne. c.update_detector_speed.ensures.same.others other (λ e. ne (omega (arith, e, n))))
    (turned (state_count m + place) (omega (arith, n))) in
    let own_speed : HasSpeed m c.args.at.now.slopes.now (set all.detectors.items place c.update_detector_speed.new.detector) place = ap (λ (w : DetectorView). w.speed) (get_or-set_same all.detectors.items place c.update_detector_speed.new.detector no_detector inside) ∙ c.update_detector_speed.ensures.speed ∙ speed in
    record {
      goes_on = subst (λ ws. AreSpeedsUpdated m c.args.at.now.tick c.args.at.now.slopes.now all.detectors.items ws c.args.agenda.now c.update_detector_speed.new.agenda) (sym detectors) going;
      speeds = subst (λ ws. All (HasSpeed m c.args.at.now.slopes.now ws) (place ∷ [])) (sym detectors)
          (let Own = HasSpeed m c.args.at.now.slopes.now (set all.detectors.items place c.update_detector_speed.new.detector) in All-cons Own place [] own_speed (All-nil Own));
      same = refl;
    }
