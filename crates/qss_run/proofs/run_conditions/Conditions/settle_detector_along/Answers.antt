-- The condition has the same value at all states.
use Rattle.qss_run.proofs.Common
use Common.{[], ℕ, ℤ, ◌∙◌, ◌∷◌, ◌≡◌, All, ap, AreSettled, Condition, condition_at}
use Common.{detector_states_of, has_entry, IsWithin, length, length-states_at, List, may_arrive}
use Common.{states_at, subst, sym, value_of, Values}
use Rattle.qss_run.proofs.Agreeing.{value_agrees}
use Rattle.qss_run.proofs.Arrived.{arrived_small}
use Rattle.qss_run.proofs.Rewatching.{settled_at}
use Rattle.qss_run.proofs.Settling.{arrived_of}
use Rattle.qss_run.proofs.run_conditions.Conditions.settle_detector_along.Goals as goal

pub move_work_read_by_form-requires : goal.move_work_read_by_form-requires
move_work_read_by_form-requires c = may_arrive c.requires.ready.values.states c.requires.ready.moment.lines.up_to

pub settle_detector-requires-clause-allowed : goal.settle_detector-requires-clause-allowed
settle_detector-requires-clause-allowed c =
    let at = c.args.at.now in
    let ready = c.requires.ready in
    let full : List ℤ = states_at at.lines.now at.tick in
    let read = c.move_work_read_by_form.ensures in
    let left : Values = c.move_work_read_by_form.new.work in
    let x : c.deref.result.now ≡ left.x = c.deref.ensures.value ∙ ap (λ (v : Values). v.x) c.work.view_is in
    let d : c.deref-2.result.now ≡ c.args.work.now.d = c.deref-2.ensures.value ∙ ap (λ (v : Values). v.d) c.work.view_is ∙ ap (λ (v : Values). v.d) read.work in
    let many : length c.args.work.now.x ≡ length full = ready.values.states ∙ sym ready.moment.lines.up_to.as_many ∙ sym (length-states_at at.lines.now at.tick) in
    record {
      fits = ready.fits;
      point = record {
        values = record {
          states = ap length x ∙ read.states.as_many ∙ ready.values.states;
          discretes = ap length d ∙ ready.values.discretes;
          small_states = subst (All (IsWithin 88)) (sym x)
              (arrived_small 88 _ full c.args.work.now.x left.x many ready.moment.lines.small ready.values.small_states read.states);
          small_discretes = subst (All (IsWithin 43)) (sym d) ready.values.small_discretes;
        };
        slopes = ready.moment.slopes;
        in_time = ready.moment.lines.up_to.in_time;
      };
      places = ready.places;
    }

pub returns : goal.returns
returns c =
    let at = c.args.at.now in
    let m = at.machine.now in
    let place : ℕ = c.args.place in
    let ready = c.requires.ready in
    let full : List ℤ = states_at at.lines.now at.tick in
    let read = c.move_work_read_by_form.ensures in
    let left : Values = c.move_work_read_by_form.new.work in
    let work : Values = c.args.work.now in
    let before = detector_states_of c.args.self.now c.args.agenda.now in
    let after = detector_states_of c.settle_detector.new.self c.settle_detector.new.agenda in
    let x : c.deref.result.now ≡ left.x = c.deref.ensures.value ∙ ap (λ (v : Values). v.x) c.work.view_is in
    let d : c.deref-2.result.now ≡ work.d = c.deref-2.ensures.value ∙ ap (λ (v : Values). v.d) c.work.view_is ∙ ap (λ (v : Values). v.d) read.work in
    let own : c.condition-condition.result.now ≡ condition_at m place = c.condition-condition.ensures.value in
    let many : length work.x ≡ length full = ready.values.states ∙ sym ready.moment.lines.up_to.as_many ∙ sym (length-states_at at.lines.now at.tick) in
    let value : value_of m (condition_at m place).form left.x work.d work.d at.tick ≡ value_of m (condition_at m place).form full work.d work.d at.tick =
    value_agrees m (condition_at m place).form left.x full work.d work.d at.tick (read.states.as_many ∙ many)
    (λ j has. read.states.own j (ap (λ (condition : Condition). has_entry j condition.form.entries) own ∙ has)) in
    let settled : AreSettled m at.tick left.x work.d at.slopes.now (place ∷ []) before after =
    subst (λ e. AreSettled m at.tick left.x e at.slopes.now (place ∷ []) before after) d
    (subst (λ v. AreSettled m at.tick v c.deref-2.result.now at.slopes.now (place ∷ []) before after) x c.settle_detector.ensures.after_handlers) in
    record {
      after_handlers = settled_at m at.tick left.x full work.d at.slopes.now place before after value settled;
      noted = c.settle_detector.ensures.noted;
      rest = c.settle_detector.ensures.rest;
      at_arrival = arrived_of m place c.condition-condition.result.now full work.x left.x own read.states;
      small = arrived_small 88 _ full work.x left.x many ready.moment.lines.small ready.values.small_states read.states;
      work = read.work;
    }
