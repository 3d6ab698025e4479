-- The inputs receive the message, and the detector has their value.
use Rattle.qss_components.proofs.Common
use Common.{◌+◌, ◌^◌, ◌∙◌, ◌≡◌, ◌≤◌, All, ap, AreParts, arith, Crossing, DetectorView, Entry}
use Common.{entry_of, FitsSigned, form_at, Input, input_after_message, input_at, ints, IsInput}
use Common.{IsMessage, IsWithin, List, Machine, map, refl, speed_by, state_count, StaysIfDiscrete}
use Common.{subst, sum_by, sym, to_z-of_z, w128, w64, with_items_is}
use Rattle.std.proofs.Common.{unsigned_abs}
use Rattle.std.specs.Vec.{with_items}
use Rattle.qss_components.proofs.Inputs.{lines_later, given_inputs, given_parts}
use Rattle.qss_components.proofs.InputsTold.{given_so}
use Rattle.qss_components.proofs.crossing_model.CrossingModelAtomic.external.Goals as goal

pub update_crossing_inputs-requires-clause-lines : goal.update_crossing_inputs-requires-clause-lines
update_crossing_inputs-requires-clause-lines c =
    let x = c.args.self.now in
    subst (All (IsInput c.args.tick)) (sym c.as_mut_slice.ensures.value) (lines_later x.detector.tick c.args.tick x.inputs.items c.requires.timely.not_before x.lines)

pub update_crossing_inputs-requires-clause-tick_limit : goal.update_crossing_inputs-requires-clause-tick_limit
update_crossing_inputs-requires-clause-tick_limit c = c.requires.timely.in_time

pub update_crossing_inputs-requires-clause-message : goal.update_crossing_inputs-requires-clause-message
update_crossing_inputs-requires-clause-message c = subst (λ (m : Machine). IsMessage m c.args.msg) (sym c.deref.ensures) c.requires.message

pub crossing_detector_of-self-requires-clause-parts : goal.crossing_detector_of-self-requires-clause-parts
crossing_detector_of-self-requires-clause-parts c =
    let x = c.args.self.now in
    let m = x.machine.value in
    let same : c.as_slice.result.now ≡ map (input_after_message m c.args.tick c.args.msg) x.inputs.items =
    c.as_slice.ensures.value ∙ with_items_is x.inputs c.update_crossing_inputs.new.inputs (c.update_crossing_inputs.auto.inputs ∙ c.as_mut_slice.ensures.len) ∙ c.update_crossing_inputs.ensures
    ∙ ap (λ (s : Machine). map (input_after_message s c.args.tick c.args.msg) c.as_mut_slice.result.now) c.deref.ensures
    ∙ ap (map (input_after_message m c.args.tick c.args.msg)) c.as_mut_slice.ensures.value in
    let sizes : sum_by (λ (e : Entry). unsigned_abs e.coef) (map entry_of x.inputs.items) + unsigned_abs x.time ≤ 2 ^ 38 = x.parts.coefficients in
    let constant : IsWithin 78 x.gamma = x.parts.constant in
    let of_time : FitsSigned w64 x.time = omega (arith, ints, sizes) in
    let of_gamma : FitsSigned w128 x.gamma = omega (arith, ints, constant) in
    simp to_z-of_z (subst (λ (xs : List Input). AreParts xs x.time x.gamma) (sym same) (given_parts m c.args.tick c.args.msg x.inputs.items x.time x.gamma x.parts))

pub crossing_detector_of-self-requires-clause-lines : goal.crossing_detector_of-self-requires-clause-lines
crossing_detector_of-self-requires-clause-lines c =
    let x = c.args.self.now in
    let m = x.machine.value in
    let same : c.as_slice.result.now ≡ map (input_after_message m c.args.tick c.args.msg) x.inputs.items =
    c.as_slice.ensures.value ∙ with_items_is x.inputs c.update_crossing_inputs.new.inputs (c.update_crossing_inputs.auto.inputs ∙ c.as_mut_slice.ensures.len) ∙ c.update_crossing_inputs.ensures
    ∙ ap (λ (s : Machine). map (input_after_message s c.args.tick c.args.msg) c.as_mut_slice.result.now) c.deref.ensures
    ∙ ap (map (input_after_message m c.args.tick c.args.msg)) c.as_mut_slice.ensures.value in
    let lines = lines_later x.detector.tick c.args.tick x.inputs.items c.requires.timely.not_before x.lines in
    let given = given_inputs m c.args.tick c.args.msg c.requires.message x.inputs.items lines x.stays c.requires.size_limit in
    subst (All (IsInput c.args.tick)) (sym same) (λ k d inside. (given k d inside).line)

pub crossing_detector_of-self-requires-clause-size_limit : goal.crossing_detector_of-self-requires-clause-size_limit
crossing_detector_of-self-requires-clause-size_limit c =
    let x = c.args.self.now in
    let m = x.machine.value in
    let same : c.as_slice.result.now ≡ map (input_after_message m c.args.tick c.args.msg) x.inputs.items =
    c.as_slice.ensures.value ∙ with_items_is x.inputs c.update_crossing_inputs.new.inputs (c.update_crossing_inputs.auto.inputs ∙ c.as_mut_slice.ensures.len) ∙ c.update_crossing_inputs.ensures
    ∙ ap (λ (s : Machine). map (input_after_message s c.args.tick c.args.msg) c.as_mut_slice.result.now) c.deref.ensures
    ∙ ap (map (input_after_message m c.args.tick c.args.msg)) c.as_mut_slice.ensures.value in
    let lines = lines_later x.detector.tick c.args.tick x.inputs.items c.requires.timely.not_before x.lines in
    let given = given_inputs m c.args.tick c.args.msg c.requires.message x.inputs.items lines x.stays c.requires.size_limit in
    subst (All (λ i. IsWithin 88 (input_at c.args.tick i))) (sym same) (λ k d inside. (given k d inside).small)

pub crossing_detector_of-self-requires-clause-tick_limit : goal.crossing_detector_of-self-requires-clause-tick_limit
crossing_detector_of-self-requires-clause-tick_limit c = c.requires.timely.in_time

pub invariant_of-self : goal.invariant_of-self
invariant_of-self c =
    let x = c.args.self.now in
    let m = x.machine.value in
    let same : (with_items x.inputs c.update_crossing_inputs.new.inputs).items ≡ map (input_after_message m c.args.tick c.args.msg) x.inputs.items =
    with_items_is x.inputs c.update_crossing_inputs.new.inputs (c.update_crossing_inputs.auto.inputs ∙ c.as_mut_slice.ensures.len) ∙ c.update_crossing_inputs.ensures
    ∙ ap (λ (s : Machine). map (input_after_message s c.args.tick c.args.msg) c.as_mut_slice.result.now) c.deref.ensures
    ∙ ap (map (input_after_message m c.args.tick c.args.msg)) c.as_mut_slice.ensures.value in
    let lines = lines_later x.detector.tick c.args.tick x.inputs.items c.requires.timely.not_before x.lines in
    let given = given_inputs m c.args.tick c.args.msg c.requires.message x.inputs.items lines x.stays c.requires.size_limit in
    let own : c.crossing_detector_of-self.result.tick ≡ c.args.tick = ap (λ (w : DetectorView). w.tick) c.crossing_detector_of-self.ensures in
    record {
      lines = subst (λ t. All (IsInput t) (with_items x.inputs c.update_crossing_inputs.new.inputs).items) (sym own) (subst (All (IsInput c.args.tick)) (sym same) (λ k d inside. (given k d inside).line));
      stays = subst (All (StaysIfDiscrete (state_count m))) (sym same) (λ k d inside. (given k d inside).stays);
      parts = subst (λ (xs : List Input). AreParts xs x.time x.gamma) (sym same) (given_parts m c.args.tick c.args.msg x.inputs.items x.time x.gamma x.parts);
    }

pub returns : goal.returns
returns c =
    let x = c.args.self.now in
    let m = x.machine.value in
    let old : Crossing = record { place = x.place; detector = x.detector; inputs = x.inputs.items; time = x.time; gamma = x.gamma } in
    let items = (with_items x.inputs c.update_crossing_inputs.new.inputs).items in
    let same : items ≡ map (input_after_message m c.args.tick c.args.msg) x.inputs.items =
    with_items_is x.inputs c.update_crossing_inputs.new.inputs (c.update_crossing_inputs.auto.inputs ∙ c.as_mut_slice.ensures.len) ∙ c.update_crossing_inputs.ensures
    ∙ ap (λ (s : Machine). map (input_after_message s c.args.tick c.args.msg) c.as_mut_slice.result.now) c.deref.ensures
    ∙ ap (map (input_after_message m c.args.tick c.args.msg)) c.as_mut_slice.ensures.value in
    let sizes : sum_by (λ (e : Entry). unsigned_abs e.coef) (map entry_of x.inputs.items) + unsigned_abs x.time ≤ 2 ^ 38 = x.parts.coefficients in
    let constant : IsWithin 78 x.gamma = x.parts.constant in
    let of_time : FitsSigned w64 x.time = omega (arith, ints, sizes) in
    let of_gamma : FitsSigned w128 x.gamma = omega (arith, ints, constant) in
    let detector : c.crossing_detector_of-self.result ≡ record { rel = x.detector.rel; tick = c.args.tick; value = form_at m items x.time x.gamma c.args.tick; speed = speed_by m items x.time } =
    (simp to_z-of_z at c.crossing_detector_of-self.ensures)
    ∙ ap (λ (s : Machine). record { rel = x.detector.rel; tick = c.args.tick; value = form_at s c.as_slice.result.now x.time x.gamma c.args.tick; speed = speed_by s c.as_slice.result.now x.time }) c.deref-2.ensures
    ∙ ap (λ (xs : List Input). record { rel = x.detector.rel; tick = c.args.tick; value = form_at m xs x.time x.gamma c.args.tick; speed = speed_by m xs x.time }) c.as_slice.ensures.value in
    (refl, given_so m old c.args.tick c.args.msg items c.crossing_detector_of-self.result same detector)
