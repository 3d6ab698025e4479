-- What goes on after the handlers of a tick.
use Rattle.qss_run.proofs.Common
use Common.{ℕ, ℤ, ◌+◌, ◌<◌, ◌∙◌, ◌≡◌, All, ap, arith, Conditions, conditions, conditions_few}
use Common.{detector_at, detector_states_of, due_at, firing_flags, FitsMachine, flag_at, int_at}
use Common.{IsDetectorAt, IsRestartedFrom, IsStoreAt, IsWithin, length, length-map-range_with_len}
use Common.{line_at, List, list_any, pos, refl, reinitialized_of, slope_at, slopes_small}
use Common.{snapshot_of, state_count, States, states_at, states_with, Store, subst, sym, truths}
use Rattle.qss_run.proofs.AfterHandlers.{length-states_with, same_worlds, lead_to, watched_up_to}
use Rattle.qss_run.proofs.Reinitialized.{among_reinitialized}
use Rattle.qss_run.proofs.Visits.{stands_again}
use Rattle.qss_states.specs.SlopeUpdates.{HaveContinued}
use Rattle.qss_run.proofs.event_steps.continue_after_handlers.Goals.{After-continue_lines}
use Rattle.qss_run.proofs.event_steps.continue_after_handlers.Given as given
use Rattle.qss_run.proofs.event_steps.continue_after_handlers.Goals as goal

pub continue_lines-requires : goal.continue_lines-requires
continue_lines-requires g c =
    let can = c.requires in
    let fits = can.fits in
    let of_moved = c.deref.ensures.value in
    record {
      ready = record {
        uses = fits.uses;
        moved = rw of_moved can.states.numbers;
        assigned = rw c.deref-2.ensures.value can.assigned;
        values = fits.values;
        before = fits.before;
      };
      count = fits.levels;
      small_levels = can.small_levels;
      small_states = rw of_moved can.states.small;
      levels = rw of_moved can.levels;
      one_each = record { slopes = fits.slopes; lines = fits.lines; places = omega (arith, fits.places) };
      held = rw of_moved can.held;
    }

-- the states have continued from those after the handlers
continued : (g : given.Over) (c : After-continue_lines g) →
    let s : Store = c.args.s.now in
    HaveContinued c.args.m.now c.args.tick
    (states_with s.states.lines.items c.args.tick s.moment.moved.items s.work.x) s.states.levels.items
    s.work.d (record { lines = s.states.lines.items; dues = s.agenda })
    (record { lines = c.continue_lines.new.self.lines.items; dues = c.continue_lines.new.agenda })
continued g c = rw c.deref.ensures.value at c.continue_lines.ensures.continued

-- their lines lead to those states
lead : (g : given.Over) (c : After-continue_lines g) →
    let s : Store = c.args.s.now in
    states_at c.continue_lines.new.self.lines.items c.args.tick
    ≡ states_with s.states.lines.items c.args.tick s.moment.moved.items s.work.x
lead g c =
    let s : Store = c.args.s.now in
    let fits = c.requires.fits in
    lead_to (state_count c.args.m.now) s.states.lines.items c.continue_lines.new.self.lines.items
    c.args.tick s.moment.moved.items s.work.x fits.lines ((continued g c).line_count ∙ fits.lines)
    (λ j h. ((continued g c).lines j h).here)

-- there is a slope of each state
many_slopes : (g : given.Over) (c : After-continue_lines g) →
    length c.continue_lines.new.self.slopes.items ≡ state_count c.args.m.now
many_slopes g c =
    let s : Store = c.args.s.now in
    ap length c.continue_lines.ensures.slopes
    ∙ length-map-range_with_len (λ j. slope_at c.args.m.now j s.states.levels.items s.work.d) 0
    (state_count c.args.m.now)

pub update_detectors_after_handlers-requires-clause-fits : goal.update_detectors_after_handlers-requires-clause-fits
update_detectors_after_handlers-requires-clause-fits g c =
    let fits = c.requires.fits in
    let at = (goal.at.update_detectors_after_handlers-requires-clause-fits g c).After-continue_lines in
    let same = c.continue_lines.ensures.same in
    record {
      own_conditions = fits.own_conditions;
      uses = fits.uses;
      lines = (continued g at).line_count ∙ fits.lines;
      levels = ap (λ (v : States). length v.levels.items) same ∙ fits.levels;
      slopes = many_slopes g at;
      weights = ap (λ (v : States). length v.weights.of_rows.items) same ∙ fits.weights;
      places = (continued g at).places ∙ fits.places;
      values = fits.values;
      before = fits.before;
      lists = fits.lists;
      log = fits.log;
      rows = fits.rows;
    }

pub update_detectors_after_handlers-requires-clause-lines : goal.update_detectors_after_handlers-requires-clause-lines
update_detectors_after_handlers-requires-clause-lines g c =
    let at = (goal.at.update_detectors_after_handlers-requires-clause-lines g c).After-continue_lines in
    let many = (continued g at).line_count ∙ c.requires.fits.lines in
    record {
      up_to = record {
        as_many = many;
        later = λ j h. ((continued g at).lines j (omega (arith, h, many))).not_later;
        in_time = c.requires.in_time;
      };
      small = subst (All (IsWithin 88)) (sym (lead g at)) c.requires.states.small;
    }

pub update_detectors_after_handlers-requires-clause-slopes : goal.update_detectors_after_handlers-requires-clause-slopes
update_detectors_after_handlers-requires-clause-slopes g c =
    let s : Store = c.args.s.now in
    record {
      as_many = many_slopes g (goal.at.update_detectors_after_handlers-requires-clause-slopes g c).After-continue_lines;
      small = slopes_small c.args.m.now s.states.levels.items s.work.d s.work.d
          c.continue_lines.new.self.slopes.items c.requires.levels.light refl
          c.continue_lines.ensures.slopes;
    }

pub update_detectors_after_handlers-requires-clause-before : goal.update_detectors_after_handlers-requires-clause-before
update_detectors_after_handlers-requires-clause-before g c =
    let m = c.args.m.now in
    let t = c.args.tick in
    let s : Store = c.args.s.now in
    let fits = c.requires.fits in
    let at = (goal.at.update_detectors_after_handlers-requires-clause-before g c).After-continue_lines in
    let after = c.continue_lines.new.self in
    let due = c.continue_lines.new.agenda in
    let x : List ℤ = states_at s.states.lines.items t in
    let old : List ℤ = c.requires.held.before.0 in
    let before = c.requires.held.before.1 in (
      x,
      s.work.pre,
      s.states.slopes.items,
      watched_up_to m s.moment.moved.items s.moment.assigned.items old s.states.levels.items s.work.pre s.work.d s.states.slopes.items after.slopes.items before.levels.off c.requires.assigned.others
          (sym before.levels.off.as_many ∙ fits.levels) fits.before fits.values.discretes before.own_sums c.continue_lines.ensures.slopes t (reinitialized_of s.work.log) s.moment.changed.items s.states.lines.items after.lines.items s.work.x
          (detector_states_of s.conditions due) fits.lines (lead g at) (λ j h none. c.requires.states.still j h (sym (among_reinitialized s.work.log j) ∙ none)) fits.slopes (many_slopes g at)
          (λ place h none.
          let was = c.requires.after_handlers.others place h none in
          record {
            watched = subst (IsDetectorAt m t x s.work.pre s.states.slopes.items place (detector_at s.conditions.detectors.items place)) (sym ((continued g at).others (state_count m + place) (omega arith))) was.watched;
            own_truth = was.own_truth;
          }),
    )

pub schedule_next_if_risen-requires : goal.schedule_next_if_risen-requires
schedule_next_if_risen-requires g c =
    let m = c.args.m.now in
    let left = c.update_detectors_after_handlers.ensures in
    let own = left.fits.own_conditions in
    let behind : ℕ = state_count m + length (conditions m) in
    record {
      flipped = record {
        as_many = own.at_arrival ∙ sym own.after_handlers;
        count = own.flipped ∙ sym own.after_handlers;
        alike = left.alike c.requires.after_handlers.alike;
      };
      places = omega (arith, left.fits.places, left.fits.lines, own.branches.as_many);
      count_limit = omega (arith, left.fits.lines, own.branches.as_many, conditions_few m, m.has_variables.few);
      none_due = ap (due_at c.update_detectors_after_handlers.new.s.agenda) (omega (arith, left.fits.lines, own.branches.as_many))
          ∙ left.beyond behind (omega arith) ∙ (continued g (goal.at.schedule_next_if_risen-requires g c).After-continue_lines).others behind (omega arith) ∙ c.requires.behind;
      tick_limit = c.requires.in_time;
    }

pub returns : goal.returns
returns g c =
    let m = c.args.m.now in
    let t = c.args.tick in
    let s : Store = c.args.s.now in
    let fits = c.requires.fits in
    let at = (goal.at.returns g c).After-continue_lines in
    let on = continued g at in
    let after = c.continue_lines.new.self in
    let unchanged = c.continue_lines.ensures.same in
    let y : List ℤ = states_with s.states.lines.items t s.moment.moved.items s.work.x in
    let left : Store = c.update_detectors_after_handlers.new.s in
    let own : Conditions = record s.conditions { detectors = left.conditions.detectors; after_handlers = left.conditions.after_handlers; flipped = left.conditions.flipped } in
    let next : Store = record s {
      conditions = own;
      states = record s.states { lines = after.lines; slopes = after.slopes };
      rising = c.schedule_next_if_risen.new.s.rising;
      agenda = c.schedule_next_if_risen.new.s.agenda;
      work = record s.work { x = left.work.x };
    } in
    let rest : left ≡ record next { rising = s.rising; agenda = left.agenda } =
    c.update_detectors_after_handlers.ensures.rest
    ∙ ap (λ (v : States). record next { states = v; rising = s.rising; agenda = left.agenda }) unchanged in
    let same : c.schedule_next_if_risen.new.s ≡ next =
    c.schedule_next_if_risen.ensures.same ∙ ap (λ (v : Store). record v { rising = next.rising; agenda = next.agenda }) rest in
    let base : FitsMachine m (record next { rising = s.rising; agenda = left.agenda }) = subst (FitsMachine m) rest c.update_detectors_after_handlers.ensures.fits in
    let good : FitsMachine m next = record {
      own_conditions = base.own_conditions;
      uses = base.uses;
      lines = base.lines;
      levels = base.levels;
      slopes = base.slopes;
      weights = base.weights;
      places = c.schedule_next_if_risen.ensures.same_length ∙ base.places;
      values = base.values;
      before = base.before;
      lists = base.lists;
      log = base.log;
      rows = base.rows;
    } in
    let left_fits = c.update_detectors_after_handlers.ensures.fits in
    let at_arrival : left.conditions.at_arrival.items ≡ s.conditions.at_arrival.items = ap (λ (v : Store). v.conditions.at_arrival.items) rest in
    let states : states_at next.states.lines.items t ≡ y = lead g at in
    let kept : (place : ℕ) → place < state_count m + length (conditions m) → due_at next.agenda place ≡ due_at left.agenda place =
    λ place h. c.schedule_next_if_risen.ensures.others place (omega (arith, h, left_fits.lines, left_fits.own_conditions.branches.as_many)) in
    let after_handlers : next.conditions.after_handlers.items ≡ truths m y s.work.d t = c.update_detectors_after_handlers.ensures.after_handlers ∙ ap (λ v. truths m v s.work.d t) states in
    let again = stands_again m t next y (length-states_with s.states.lines.items t s.moment.moved.items s.work.x ∙ fits.lines) good
    (λ j h. c.requires.small_levels j (pos 0) (omega (arith, h, fits.levels)))
    c.requires.levels.light
    c.continue_lines.ensures.slopes
    c.requires.weights
    (λ j h.
    subst (λ found. IsRestartedFrom m t (int_at y j) (int_at s.states.levels.items j) (slope_at m j s.states.levels.items s.work.d) j (line_at next.states.lines.items j) found)
    (sym (kept j (omega (arith, h)) ∙ c.update_detectors_after_handlers.ensures.others j h)) (on.lines j h))
    after_handlers
    (λ place h.
    subst (λ found. IsDetectorAt m t y s.work.d next.states.slopes.items place (detector_at left.conditions.detectors.items place) found) (sym (kept (state_count m + place) (omega (arith, h))))
    (subst (λ v. IsDetectorAt m t v s.work.d next.states.slopes.items place (detector_at left.conditions.detectors.items place) (due_at left.agenda (state_count m + place))) states
    (c.update_detectors_after_handlers.ensures.detectors place h)))
    (c.schedule_next_if_risen.ensures.rising ∙ ap (λ a. list_any (λ flag. flag) (firing_flags left.conditions.after_handlers.items a left.conditions.after_handlers.items)) at_arrival)
    (ap (due_at next.agenda) (omega (arith, left_fits.lines, left_fits.own_conditions.branches.as_many)) ∙ c.schedule_next_if_risen.ensures.own)
    (λ place out. ap (λ flags. flag_at flags place) (sym at_arrival) ∙ c.update_detectors_after_handlers.ensures.alike c.requires.after_handlers.alike place out) in
    let snapshot : snapshot_of t next ≡ record { states = y; levels = s.states.levels.items; discretes = s.work.d; at_arrival = s.conditions.at_arrival.items; after_handlers = truths m y s.work.d t } =
    same_worlds (snapshot_of t next) (record { states = y; levels = s.states.levels.items; discretes = s.work.d; at_arrival = s.conditions.at_arrival.items; after_handlers = truths m y s.work.d t })
    again.0 refl refl refl after_handlers in
    record {
      stands = subst (IsStoreAt m t) (sym same) again.1;
      snapshot = ap (snapshot_of t) same ∙ snapshot;
      rows = ap (λ (v : Store). v.rows) same;
      kept = λ j inside so. ap (λ (v : Store). line_at v.states.lines.items j) same ∙ on.kept j inside so;
      counted = rw c.deref.ensures.value at c.continue_lines.ensures.counted;
    }
