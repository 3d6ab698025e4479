-- All conditions are settled, or go on at their speeds.
use Rattle.qss_run.proofs.Common
use Common.{ℤ, ◌+◌, ◌∙◌, ◌≡◌, All, ap, AreLinesAt, AreRisingBelow, AreSlopesBefore, arith, Bool}
use Common.{condition_at, Conditions, conditions, detector_at, detector_states_of, DetectorView}
use Common.{due_at, eqb-true, flag_at, is_listed, IsDetectorAt, IsSmall, IsWithin, length, List}
use Common.{reinitialized_of, speed_of, state_count, states_at, Store, subst, sym, truths_are}
use Common.{Values, vec_len}
use Rattle.qss_states.specs.Variables.{AreSlopesOf}
use Rattle.qss_run.proofs.Apart.{alike_then}
use Rattle.qss_run.proofs.OwnConditions.{settled_fits, still_fits, rest_watched}
use Rattle.qss_run.proofs.SmallValues.{value_small, condition_bounded}
use Rattle.qss_run.proofs.Settling.{among_settling, unread_by}
use Rattle.qss_run.proofs.Untouched.{each_watched}
use Rattle.qss_run.proofs.condition_detectors.update_detectors_after_handlers.Goals as goal

pub settle_detectors_after_handlers-requires-clause-ready : goal.settle_detectors_after_handlers-requires-clause-ready
settle_detectors_after_handlers-requires-clause-ready c =
    let fits = c.requires.fits in
    record {
      moment = record {
        uses = fits.uses;
        lines = subst (AreLinesAt c.args.m.now c.args.tick) (sym c.deref.ensures.value) c.requires.lines;
        slopes = subst (AreSlopesOf c.args.m.now) (sym c.deref-2.ensures.value) c.requires.slopes;
      };
      fits = fits.own_conditions;
      places = omega (arith, fits.places);
      values = fits.values;
    }

pub update_detectors_of-requires : goal.update_detectors_of-requires
update_detectors_of-requires c =
    let m = c.args.m.now in
    let t = c.args.tick in
    let s : Store = c.args.s.now in
    let fits = c.requires.fits in
    let was = c.requires.before in
    let full : List ℤ = states_at s.states.lines.items t in
    let along = c.settle_detectors_after_handlers.ensures in
    let are = rw c.deref-2.ensures.value at (rw c.deref.ensures.value at along.after_handlers) in
    let there = each_watched m t s.moment.moved.items (reinitialized_of s.work.log) s.moment.assigned.items s.moment.changed.items was.0 full was.1 s.work.d was.2 s.states.slopes.items (detector_states_of s.conditions s.agenda)
    (detector_states_of c.settle_detectors_after_handlers.new.self c.settle_detectors_after_handlers.new.agenda) was.3 are in
    let many : length c.settle_detectors_after_handlers.new.self.detectors.items ≡ length (conditions m) = along.after_handlers.many_watches ∙ fits.own_conditions.detectors in
    record {
      uses = fits.uses;
      moved = subst (AreRisingBelow (state_count m)) (sym c.deref-3.ensures.value) c.requires.moved;
      ready = record {
        fits = settled_fits m s.conditions c.settle_detectors_after_handlers.new.self fits.own_conditions along.rest along.after_handlers.many_watches along.after_handlers.many_truths along.noted.count;
        places = omega (arith, along.after_handlers.many_dues, fits.places);
        small = record {
          later = λ place h. (there place (omega (arith, h, many))).watched.not_later;
          small = λ place h.
              subst IsSmall (sym (there place (omega (arith, h, many))).watched.here)
              (value_small m (condition_at m place).form full s.work.d t
              (condition_bounded m s.conditions.branches.items fits.own_conditions.branches place (omega (arith, h, many, fits.own_conditions.branches.as_many))) c.requires.lines.small fits.values.small_discretes
              c.requires.lines.up_to.in_time);
        };
        slopes_of = subst (AreSlopesOf m) (sym c.deref-2.ensures.value) c.requires.slopes;
        in_time = c.requires.lines.up_to.in_time;
      };
    }

pub returns-then-is_empty-clause-after_handlers : goal.returns-then-is_empty-clause-after_handlers
returns-then-is_empty-clause-after_handlers c =
    let all : Conditions = c.args.s.now.conditions in
    let own = c.requires.fits.own_conditions in
    let is_empty = sym c.is_empty.ensures ∙ c.if-is_empty.true in
    let empty = eqb-true (vec_len all.detectors) 0 is_empty in
    truths_are c.args.m.now (states_at c.args.s.now.states.lines.items c.args.tick) c.args.s.now.work.d
    c.args.tick all.after_handlers.items own.after_handlers
    (λ place h. absurd (omega (arith, h, empty, all.detectors.ok.0, own.detectors)))

pub returns : goal.returns
returns c =
    let m = c.args.m.now in
    let t = c.args.tick in
    let s : Store = c.args.s.now in
    let fits = c.requires.fits in
    let was = c.requires.before in
    let full : List ℤ = states_at s.states.lines.items t in
    let along = c.settle_detectors_after_handlers.ensures in
    let first : Conditions = c.settle_detectors_after_handlers.new.self in
    let last : Conditions = c.update_detectors_of.new.self in
    let new : Store = record s { conditions = last; agenda = c.update_detectors_of.new.agenda; work = c.settle_detectors_after_handlers.new.work } in
    let going = c.update_detectors_of.ensures.goes_on in
    let same = c.update_detectors_of.ensures.same in
    let are = rw c.deref-2.ensures.value at (rw c.deref.ensures.value at along.after_handlers) in
    let there = each_watched m t s.moment.moved.items (reinitialized_of s.work.log) s.moment.assigned.items s.moment.changed.items was.0 full was.1 s.work.d was.2 s.states.slopes.items (detector_states_of s.conditions s.agenda)
    (detector_states_of first c.settle_detectors_after_handlers.new.agenda) was.3 are in
    let many : length first.detectors.items ≡ length (conditions m) = along.after_handlers.many_watches ∙ fits.own_conditions.detectors in
    let still : last.after_handlers.items ≡ first.after_handlers.items = ap (λ (all : Conditions). all.after_handlers.items) same in
    let rest = rest_watched s.conditions first last along.rest same in
    let work = c.settle_detectors_after_handlers.ensures.work in
    let of_d : new.work.d ≡ s.work.d = ap (λ (v : Values). v.d) work in
    let slopes : c.deref-2.result.now ≡ s.states.slopes.items = c.deref-2.ensures.value in
    record {
      after_handlers = still
          ∙ truths_are m full s.work.d t first.after_handlers.items (along.after_handlers.many_truths ∙ fits.own_conditions.after_handlers) (λ place h. (there place h).own_truth);
      detectors = λ place h.
          let here = there place h in
          subst (λ v. IsDetectorAt m t full s.work.d v place (detector_at last.detectors.items place) (due_at c.update_detectors_of.new.agenda (state_count m + place))) slopes
          (c.update_detectors_of.ensures.detectors full s.work.d here.before place h
          (subst (λ v. AreSlopesBefore m c.deref-3.result.now here.before v place) (sym slopes)
          (subst (λ js. AreSlopesBefore m js here.before s.states.slopes.items place) (sym c.deref-3.ensures.value) here.slopes_before)) here.watched);
      kept = λ place h none own_speed.
          let before = are.kept place (among_settling m place h (reinitialized_of s.work.log) s.moment.assigned.items s.moment.changed.items ∙ none) in
          let on = going.each place (omega (arith, h, many)) in
          let stays = on.kept (ap (λ (w : DetectorView). w.speed) before.detector ∙ own_speed ∙ ap (speed_of m (condition_at m place).form) (sym slopes)) in
          record { detector = stays.0 ∙ before.detector; truth = ap (λ (flags : List Bool). flag_at flags place) still ∙ before.truth; due = stays.1 ∙ before.due };
      unread = λ j none.
          along.at_arrival.others j (
          unread_by m (reinitialized_of s.work.log) s.moment.assigned.items s.moment.changed.items j none);
      alike = λ were.
          let first_alike = alike_then m (reinitialized_of s.work.log) s.moment.assigned.items s.moment.changed.items s.conditions first along.noted (λ place none. (along.after_handlers.kept place none).truth)
          (ap (λ (all : Conditions). all.at_arrival.items) along.rest) were in
          λ place out.
          ap (λ (all : Conditions). flag_at all.at_arrival.items place) same
          ∙ first_alike place (ap (λ (all : Conditions). is_listed all.flipped.places place) (sym same) ∙ out)
          ∙ sym (ap (λ (all : Conditions). flag_at all.after_handlers.items place) same);
      rest = ap (λ (all : Conditions). record new { conditions = all }) rest
          ∙ ap (λ (v : Values). record new { conditions = record s.conditions { detectors = last.detectors; after_handlers = last.after_handlers; flipped = last.flipped }; work = v }) work;
      fits = record {
        own_conditions = still_fits m first last (settled_fits m s.conditions first fits.own_conditions along.rest along.after_handlers.many_watches along.after_handlers.many_truths along.noted.count) same going.as_many;
        uses = fits.uses;
        lines = fits.lines;
        levels = fits.levels;
        slopes = fits.slopes;
        weights = fits.weights;
        places = going.places ∙ along.after_handlers.many_dues ∙ fits.places;
        values = record {
          states = along.at_arrival.as_many ∙ fits.values.states;
          discretes = ap length of_d ∙ fits.values.discretes;
          small_states = along.small;
          small_discretes = subst (All (IsWithin 43)) (sym of_d) fits.values.small_discretes;
        };
        before = ap (λ (v : Values). length v.pre) work ∙ fits.before;
        lists = fits.lists;
        log = omega (arith, ap (λ (v : Values). v.room) work, fits.log);
        rows = fits.rows;
      };
      others = λ place h. going.others place h ∙ along.after_handlers.states place h;
      beyond = λ place h. going.beyond place (omega (arith, h, many)) ∙ along.after_handlers.beyond place (omega (arith, h, fits.own_conditions.detectors));
    }
