-- A tick at which conditions change.
use Rattle.qss_run.proofs.Common
use Common.{ℕ, ℤ, ◌++◌, ◌+◌, ◌∙◌, ◌≡◌, ◌≤◌, All, ap, AreMovedTo, AreNextLevels, AreRisingBelow}
use Common.{AreSumsBefore, AreWeights, arith, Bool, clash, condition_at, Conditions, conditions}
use Common.{detector_at, DiffersOnlyAt, due_at, Err, exceeds_row_limits, first_exceeding, flag_at}
use Common.{goes_from, handlers_at, HandlerState, handling_from, HaveLeft, int_at, int_at-states_at}
use Common.{int_at-tabulate, is_reinitialized, is_some, IsAllowedLevel, IsDetectorAt, IsWithin}
use Common.{length, level_rows, line_at, List, moved_states, None, Ok, Option, option_or}
use Common.{overflow_of, position, refl, replaced_lines_from, rules, Slope, slope_at, Snapshot}
use Common.{snapshot_of, state_count, States, states_at, states_with, Store, subst, sym, tabulate}
use Common.{touches_at, true, truth, truths, Values, vec_capacity}
use Rattle.qss_states.specs.Variables.{AreAssignedFrom}
use Rattle.qss_states.proofs.DueLevels.{may_move}
use Rattle.qss_run.proofs.AfterHandlers.{same_worlds}
use Rattle.qss_run.proofs.Crossed.{none_early, reinits_known, later_dues, flag_same, rest_as_before}
use Rattle.qss_run.proofs.Crossed.{watched_then, watched_still, moved_to, near_after, due_after}
use Rattle.qss_run.proofs.Crossed.{conditions_stay}
use Rattle.qss_run.proofs.Handled.{rows_handled}
use Rattle.qss_run.proofs.Kept.{have_left, not_due, on_line, same_due}
use Rattle.qss_run.proofs.DueRemoved.{earlier, levels_before, lines_then, own_slope, rest_small}
use Rattle.qss_run.proofs.Reinits.{kept_state}
use Rattle.qss_run.proofs.Touched.{goes_on_from, IsUntouched, renewals_from_touched, untouched}
use Rattle.qss_run.proofs.Visits.{arrives, handles, both_none, early, late, steps_to, end_of}
use Rattle.qss_run.proofs.Visits.{levels_small}
use Rattle.qss_run.proofs.event_steps.run_due_event.Goals as goal

pub handle_changed_conditions-requires-clause-ready : goal.handle_changed_conditions-requires-clause-ready
handle_changed_conditions-requires-clause-ready g c =
    let m = c.args.m.now in
    let t = c.args.before + 1 in
    let s : Store = c.args.s.now in
    let agenda : List (Option ℕ) = c.requires.taken.0 in
    let taken = c.requires.taken.1 in
    let fits = taken.stands.fits in
    record {
      known = record {
        fits = fits.own_conditions;
        numbers = taken.changing.numbers;
        watched = λ place h.
            watched_then m c.args.before agenda s taken c.requires.in_time place h;
        alike = taken.stands.alike;
        others = λ place h none.
            let both = rest_as_before m c.args.before agenda s taken c.requires.in_time place h none in
            both;
      };
      lines = record {
        up_to = record {
          as_many = fits.lines;
          later = λ j h.
              let not_later = (taken.stands.stands_for.lines j (omega (arith, h, fits.lines))).not_later in
              omega (arith, not_later);
          in_time = omega (arith, c.requires.in_time, m.has_units.last_tick);
        };
        numbers = taken.due.numbers;
        others_small = λ j h none.
            rest_small m c.args.before agenda s taken c.requires.in_time j h none;
      };
      values = fits.values;
      places = omega (arith, taken.without.as_many, fits.places);
      taken = record { later = later_dues m c.args.before agenda s taken c.requires.in_time; none = taken.without.states };
    }

pub returns-in_err-handle_changed_conditions-clause-visited : goal.returns-in_err-handle_changed_conditions-clause-visited
returns-in_err-handle_changed_conditions-clause-visited g c =
    let m = c.args.m.now in
    let t = c.args.before + 1 in
    let s : Store = c.args.s.now in
    let agenda : List (Option ℕ) = c.requires.taken.0 in
    let h : HandlerState = handling_from m t (states_at s.states.lines.items t) s.work.d s.conditions.at_arrival.items s.conditions.after_handlers.items in
    let is_h : h ≡ handlers_at m t (snapshot_of c.args.before s) =
    handles m c.args.before (record s { agenda = agenda }) c.requires.taken.1.stands in
    let given : c.from_residual.result ≡ Err c.in_err-handle_changed_conditions.field-0.0 =
    search rules in
    let some : is_some (overflow_of c.from_residual.result) ≡ true =
    ap is_some (ap overflow_of given) in
    let same : overflow_of c.from_residual.result ≡ overflow_of c.handle_changed_conditions.result =
    ap overflow_of given ∙ ap overflow_of (sym c.in_err-handle_changed_conditions.was) in
    record {
      stepped = early (IsAllowedLevel c.args.q.now.name) m t (snapshot_of c.args.before s) _ (overflow_of c.from_residual.result) some (same ∙ c.handle_changed_conditions.ensures.overflow ∙ ap (λ (k : HandlerState). k.overflow) is_h);
      rows = λ none. clash (overflow_of c.from_residual.result) some none;
      stands = λ none. clash (overflow_of c.from_residual.result) some none;
      room = refl;
      counted = omega arith;
    }

pub returns-in_err-handle_changed_conditions-clause-kept : goal.returns-in_err-handle_changed_conditions-clause-kept
returns-in_err-handle_changed_conditions-clause-kept g c none =
    let given : c.from_residual.result ≡ Err c.in_err-handle_changed_conditions.field-0.0 = search rules in
    clash (overflow_of c.from_residual.result) (ap is_some (ap overflow_of given)) none

pub returns-in_err-requantize-clause-kept : goal.returns-in_err-requantize-clause-kept
returns-in_err-requantize-clause-kept g c none =
    let given : c.from_residual-in_err-requantize.result ≡ Err c.in_err-requantize.field-0.0 = search rules in
    clash (overflow_of c.from_residual-in_err-requantize.result) (ap is_some (ap overflow_of given)) none

pub requantize-requires : goal.requantize-requires
requantize-requires g c =
    let m = c.args.m.now in
    let t = c.args.before + 1 in
    let s : Store = c.args.s.now in
    let agenda : List (Option ℕ) = c.requires.taken.0 in
    let taken = c.requires.taken.1 in
    let stands = taken.stands in
    let h : HandlerState = handling_from m t (states_at s.states.lines.items t) s.work.d s.conditions.at_arrival.items s.conditions.after_handlers.items in
    let is_h : h ≡ handlers_at m t (snapshot_of c.args.before s) =
    handles m c.args.before (record s { agenda = agenda }) stands in
    let calm : overflow_of c.handle_changed_conditions.result ≡ None =
    ap overflow_of c.in_ok-handle_changed_conditions.was in
    let moved = c.handle_changed_conditions.new.moment.moved.items in
    let assigned = c.handle_changed_conditions.new.moment.assigned.items in
    let new : Values = c.handle_changed_conditions.new.work in
    let handled = c.handle_changed_conditions.ensures.handled calm in
    let of_pre : new.pre ≡ s.work.d = ap (λ (v : Values). v.pre) handled.values in
    record {
      ready = record {
        uses = stands.fits.uses;
        moved = subst (AreRisingBelow (state_count m)) (sym c.deref.ensures.value) handled.numbers;
        assigned = subst (λ (js : List ℕ). AreAssignedFrom m js new.pre new.d) (sym c.deref-2.ensures.value) handled.assigns;
        values = record {
          states = handled.fits.states;
          discretes = handled.fits.discretes;
          small_states = handled.fits.small_states;
          small_discretes = handled.fits.small_discretes;
        };
        before = handled.fits.before;
      };
      held = record {
        lines = stands.fits.lines;
        levels = stands.fits.levels;
        of_lines = record {
          small = levels_small m c.args.before (record s { agenda = agenda }) stands;
          light = ap (λ p. position (exceeds_row_limits m s.states.levels.items p) m.rows) of_pre ∙ stands.stands_for.left.light;
          own_levels = λ j inside. (stands.stands_for.lines j inside).own_level;
        };
        weights = subst (λ p. AreWeights m s.states.levels.items p s.states.weights) (sym of_pre) stands.own_weights;
      };
      left = λ idle. subst (λ js. HaveLeft m js new.x s.states.levels.items) (sym c.deref.ensures.value)
          (have_left m c.args.before agenda s taken c.requires.in_time moved assigned new h handled is_h idle);
      room = omega (
        arith,
        ap (λ (v : Values). length v.log) handled.values,
        rows_handled m t (states_at s.states.lines.items t) s.work.d s.conditions.at_arrival.items s.conditions.after_handlers.items,
        stands.fits.rows,
      );
    }

pub returns-in_err-requantize-clause-visited : goal.returns-in_err-requantize-clause-visited
returns-in_err-requantize-clause-visited g c =
    let m = c.args.m.now in
    let t = c.args.before + 1 in
    let s : Store = c.args.s.now in
    let agenda : List (Option ℕ) = c.requires.taken.0 in
    let taken = c.requires.taken.1 in
    let h : HandlerState = handling_from m t (states_at s.states.lines.items t) s.work.d s.conditions.at_arrival.items s.conditions.after_handlers.items in
    let is_h : h ≡ handlers_at m t (snapshot_of c.args.before s) =
    handles m c.args.before (record s { agenda = agenda }) taken.stands in
    let calm : overflow_of c.handle_changed_conditions.result ≡ None =
    ap overflow_of c.in_ok-handle_changed_conditions.was in
    let moved = c.handle_changed_conditions.new.moment.moved.items in
    let assigned = c.handle_changed_conditions.new.moment.assigned.items in
    let new : Values = c.handle_changed_conditions.new.work in
    let handled = c.handle_changed_conditions.ensures.handled calm in
    let calm_h : h.overflow ≡ None = sym c.handle_changed_conditions.ensures.overflow ∙ calm in
    let of_d : new.d ≡ h.discretes = ap (λ (v : Values). v.d) handled.values in
    let fresh : List ℤ = c.requantize.ensures.taken.0 in
    let to : AreMovedTo m c.deref.result.now new.x s.states.levels.items h.states =
    subst (λ js. AreMovedTo m js new.x s.states.levels.items h.states) (sym c.deref.ensures.value)
    (moved_to m c.args.before agenda s taken c.requires.in_time moved assigned new h handled) in
    let allowed : AreNextLevels (IsAllowedLevel c.args.q.now.name) m h.states s.states.levels.items fresh =
    c.requantize.ensures.taken.1.allowed h.states to in
    let over : overflow_of c.requantize.result ≡ option_or (first_exceeding 43 fresh) (position (exceeds_row_limits m fresh h.discretes) m.rows) =
    c.requantize.ensures.taken.1.over_is ∙ ap (λ d. option_or (first_exceeding 43 fresh) (position (exceeds_row_limits m fresh d) m.rows)) of_d in
    let given : c.from_residual-in_err-requantize.result ≡ Err c.in_err-requantize.field-0.0 =
    search rules in
    let some : is_some (overflow_of c.from_residual-in_err-requantize.result) ≡ true =
    ap is_some (ap overflow_of given) in
    let same : overflow_of c.from_residual-in_err-requantize.result ≡ overflow_of c.requantize.result =
    ap overflow_of given ∙ ap overflow_of (sym c.in_err-requantize.was) in
    record {
      stepped = late (IsAllowedLevel c.args.q.now.name) m t (snapshot_of c.args.before s) _ h fresh (overflow_of c.from_residual-in_err-requantize.result) some is_h calm_h allowed (same ∙ over);
      rows = λ none. clash (overflow_of c.from_residual-in_err-requantize.result) some none;
      stands = λ none. clash (overflow_of c.from_residual-in_err-requantize.result) some none;
      room = c.requantize.ensures.room;
      counted = omega arith;
    }

pub continue_after_handlers-requires : goal.continue_after_handlers-requires
continue_after_handlers-requires g c =
    let m = c.args.m.now in
    let t = c.args.before + 1 in
    let s : Store = c.args.s.now in
    let agenda : List (Option ℕ) = c.requires.taken.0 in
    let taken = c.requires.taken.1 in
    let h : HandlerState = handling_from m t (states_at s.states.lines.items t) s.work.d s.conditions.at_arrival.items s.conditions.after_handlers.items in
    let is_h : h ≡ handlers_at m t (snapshot_of c.args.before s) =
    handles m c.args.before (record s { agenda = agenda }) taken.stands in
    let calm : overflow_of c.handle_changed_conditions.result ≡ None =
    ap overflow_of c.in_ok-handle_changed_conditions.was in
    let moved = c.handle_changed_conditions.new.moment.moved.items in
    let assigned = c.handle_changed_conditions.new.moment.assigned.items in
    let new : Values = c.handle_changed_conditions.new.work in
    let handled = c.handle_changed_conditions.ensures.handled calm in
    let calm_h : h.overflow ≡ None = sym c.handle_changed_conditions.ensures.overflow ∙ calm in
    let of_d : new.d ≡ h.discretes = ap (λ (v : Values). v.d) handled.values in
    let of_pre : new.pre ≡ s.work.d = ap (λ (v : Values). v.pre) handled.values in
    let fresh : List ℤ = c.requantize.ensures.taken.0 in
    let to : AreMovedTo m c.deref.result.now new.x s.states.levels.items h.states =
    subst (λ js. AreMovedTo m js new.x s.states.levels.items h.states) (sym c.deref.ensures.value)
    (moved_to m c.args.before agenda s taken c.requires.in_time moved assigned new h handled) in
    let allowed : AreNextLevels (IsAllowedLevel c.args.q.now.name) m h.states s.states.levels.items fresh =
    c.requantize.ensures.taken.1.allowed h.states to in
    let over : overflow_of c.requantize.result ≡ option_or (first_exceeding 43 fresh) (position (exceeds_row_limits m fresh h.discretes) m.rows) =
    c.requantize.ensures.taken.1.over_is ∙ ap (λ d. option_or (first_exceeding 43 fresh) (position (exceeds_row_limits m fresh d) m.rows)) of_d in
    let fine : overflow_of c.requantize.result ≡ None = ap overflow_of c.in_ok-requantize.was in
    let none_both = both_none (first_exceeding 43 fresh) (position (exceeds_row_limits m fresh h.discretes) m.rows) (sym fine ∙ over) in
    let levels : List ℤ = c.requantize.new.self.levels.items in
    let are_fresh : levels ≡ fresh = c.requantize.ensures.taken.1.levels fine in
    let fits = taken.stands.fits in
    let off : DiffersOnlyAt moved s.states.levels.items levels =
    subst (λ l. DiffersOnlyAt moved s.states.levels.items l) (sym are_fresh)
    (subst (λ js. DiffersOnlyAt js s.states.levels.items fresh) c.deref.ensures.value c.requantize.ensures.taken.1.others) in
    let allowed_now : AreNextLevels (IsAllowedLevel c.args.q.now.name) m h.states s.states.levels.items levels =
    subst (λ l. AreNextLevels (IsAllowedLevel c.args.q.now.name) m h.states s.states.levels.items l) (sym are_fresh) allowed in
    let after = c.handle_changed_conditions.new.agenda in
    let without = c.handle_changed_conditions.ensures.without calm in
    let w : Snapshot = snapshot_of c.args.before s in
    let of_log = ap (λ (v : Values). v.log) handled.values in
    rw c.requantize.ensures.same (record {
      fits = record {
        own_conditions = c.handle_changed_conditions.ensures.fits calm;
        uses = fits.uses;
        lines = fits.lines;
        levels = off.as_many ∙ fits.levels;
        slopes = fits.slopes;
        weights = (c.requantize.ensures.weights fine).as_many;
        places = without.as_many ∙ taken.without.as_many ∙ fits.places;
        values = record {
          states = handled.fits.states;
          discretes = handled.fits.discretes;
          small_states = handled.fits.small_states;
          small_discretes = handled.fits.small_discretes;
        };
        before = handled.fits.before;
        lists = c.handle_changed_conditions.ensures.lists;
        log = omega (arith, ap (λ (v : Values). v.room) handled.values, fits.log);
        rows = omega (arith, c.requantize.ensures.room, fits.rows);
      };
      in_time = omega (arith, c.requires.in_time, m.has_units.last_tick);
      assigned = handled.assigns;
      states = record {
        numbers = handled.numbers;
        reinitialized = λ j e. reinits_known m c.args.before agenda s taken c.requires.in_time moved assigned new h handled j (sym (ap (λ rows. is_reinitialized rows j) of_log) ∙ e);
        still = λ j inside none.
            ap (λ xs. int_at xs j) (sym handled.own_states)
            ∙ ap (λ (k : HandlerState). int_at k.states j) is_h
            ∙ kept_state m t w j (sym (ap (λ rows. is_reinitialized rows j) (of_log ∙ ap (λ (k : HandlerState). k.rows) is_h)) ∙ none)
            ∙ ap (λ xs. int_at xs j) (sym (arrives m c.args.before (record s { agenda = agenda }) taken.stands))
            ∙ int_at-states_at s.states.lines.items t j (omega (arith, inside, fits.lines));
        small = subst (All (IsWithin 88)) handled.own_states handled.small;
      };
      after_handlers = rw c.handle_changed_conditions.ensures.changed (record {
        numbers = taken.changing.numbers;
        alike = c.handle_changed_conditions.ensures.alike calm;
        others = λ place inside none. record {
          watched = subst (λ (all : Conditions). IsDetectorAt m t (states_at s.states.lines.items t) new.pre s.states.slopes.items place (detector_at all.detectors.items place) (due_at after (state_count m + place))) (sym c.handle_changed_conditions.ensures.rest)
              (subst (λ p. IsDetectorAt m t (states_at s.states.lines.items t) p s.states.slopes.items place (detector_at s.conditions.detectors.items place) (due_at after (state_count m + place))) (sym of_pre)
              (subst (λ found. IsDetectorAt m t (states_at s.states.lines.items t) s.work.d s.states.slopes.items place (detector_at s.conditions.detectors.items place) found)
              (sym (conditions_stay m c.args.before agenda s taken c.requires.in_time moved assigned new h handled after without place))
              (watched_still m c.args.before agenda s taken c.requires.in_time place inside none)));
          own_truth = ap (λ (all : Conditions). flag_at all.after_handlers.items place) c.handle_changed_conditions.ensures.rest
              ∙ sym (flag_same m c.args.before agenda s taken c.requires.in_time place inside none)
              ∙ ap (λ p. truth m (condition_at m place) (states_at s.states.lines.items t) p t) (sym of_pre);
        };
      });
      small_levels = c.requantize.ensures.size_limit fine;
      levels = record {
        near = near_after m c.args.before agenda s taken c.requires.in_time moved assigned new h handled c.args.q.now.name levels allowed_now;
        light = ap (λ l. position (exceeds_row_limits m l new.d) m.rows) are_fresh ∙ ap (λ d. position (exceeds_row_limits m fresh d) m.rows) of_d ∙ none_both.1;
      };
      weights = c.requantize.ensures.weights fine;
      held = record {
        may_move = may_move (lines_then m c.args.before agenda s taken c.requires.in_time
            (none_early m t (states_at s.states.lines.items t) s.work.d s.conditions.at_arrival.items s.conditions.after_handlers.items calm_h));
        earlier = earlier m c.args.before agenda s taken c.requires.in_time;
        before = (
          s.states.levels.items,
          subst (λ p. AreSumsBefore Slope m moved levels p s.states.slopes.items s.states.lines.items s.states.levels.items) (sym of_pre)
              (levels_before m c.args.before agenda s taken c.requires.in_time moved levels off),
        );
        own_slope = own_slope m c.args.before agenda s taken c.requires.in_time;
        due = due_after m c.args.before agenda s taken c.requires.in_time moved assigned new h handled c.args.q.now.name levels allowed_now after without;
      };
      behind = conditions_stay m c.args.before agenda s taken c.requires.in_time moved assigned
          new h handled after without (length (conditions m))
          ∙ taken.without.behind;
    })

pub returns : goal.returns
returns g c =
    let m = c.args.m.now in
    let t = c.args.before + 1 in
    let s : Store = c.args.s.now in
    let agenda : List (Option ℕ) = c.requires.taken.0 in
    let taken = c.requires.taken.1 in
    let h : HandlerState = handling_from m t (states_at s.states.lines.items t) s.work.d s.conditions.at_arrival.items s.conditions.after_handlers.items in
    let is_h : h ≡ handlers_at m t (snapshot_of c.args.before s) =
    handles m c.args.before (record s { agenda = agenda }) taken.stands in
    let calm : overflow_of c.handle_changed_conditions.result ≡ None =
    ap overflow_of c.in_ok-handle_changed_conditions.was in
    let moved = c.handle_changed_conditions.new.moment.moved.items in
    let assigned = c.handle_changed_conditions.new.moment.assigned.items in
    let new : Values = c.handle_changed_conditions.new.work in
    let handled = c.handle_changed_conditions.ensures.handled calm in
    let calm_h : h.overflow ≡ None = sym c.handle_changed_conditions.ensures.overflow ∙ calm in
    let of_d : new.d ≡ h.discretes = ap (λ (v : Values). v.d) handled.values in
    let fresh : List ℤ = c.requantize.ensures.taken.0 in
    let to : AreMovedTo m c.deref.result.now new.x s.states.levels.items h.states =
    subst (λ js. AreMovedTo m js new.x s.states.levels.items h.states) (sym c.deref.ensures.value)
    (moved_to m c.args.before agenda s taken c.requires.in_time moved assigned new h handled) in
    let allowed : AreNextLevels (IsAllowedLevel c.args.q.now.name) m h.states s.states.levels.items fresh =
    c.requantize.ensures.taken.1.allowed h.states to in
    let over : overflow_of c.requantize.result ≡ option_or (first_exceeding 43 fresh) (position (exceeds_row_limits m fresh h.discretes) m.rows) =
    c.requantize.ensures.taken.1.over_is ∙ ap (λ d. option_or (first_exceeding 43 fresh) (position (exceeds_row_limits m fresh d) m.rows)) of_d in
    let fine : overflow_of c.requantize.result ≡ None = ap overflow_of c.in_ok-requantize.was in
    let none_both = both_none (first_exceeding 43 fresh) (position (exceeds_row_limits m fresh h.discretes) m.rows) (sym fine ∙ over) in
    let levels : List ℤ = c.requantize.new.self.levels.items in
    let are_fresh : levels ≡ fresh = c.requantize.ensures.taken.1.levels fine in
    let fits = taken.stands.fits in
    let w : Snapshot = snapshot_of c.args.before s in
    let last : Store = c.continue_after_handlers.new.s in
    let next : Snapshot = snapshot_of t last in
    let x : List ℤ = states_with s.states.lines.items t moved new.x in
    let of_x : x ≡ h.states = sym handled.own_states in
    let at_arrival : List Bool = c.handle_changed_conditions.new.self.at_arrival.items in
    let files_read : states_at s.states.lines.items t ≡ moved_states m w = arrives m c.args.before (record s { agenda = agenda }) taken.stands in
    let of_arrived : at_arrival ≡ truths m (moved_states m w) s.work.d t =
    c.handle_changed_conditions.ensures.at_arrival calm
    ∙ ap (λ y. truths m y s.work.d t) files_read in
    let of_lines : c.requantize.new.self.lines.items ≡ s.states.lines.items =
    ap (λ (v : States). v.lines.items) c.requantize.ensures.same in
    let snapshot : next ≡ record { states = x; levels = levels; discretes = new.d; at_arrival = at_arrival; after_handlers = truths m x new.d t } =
    rw of_lines at c.continue_after_handlers.ensures.snapshot in
    let end : next ≡ end_of m t w h fresh =
    snapshot
    ∙ same_worlds (record { states = x; levels = levels; discretes = new.d; at_arrival = at_arrival; after_handlers = truths m x new.d t }) (end_of m t w h fresh) of_x are_fresh of_d of_arrived
    (ap (λ y. truths m y new.d t) of_x ∙ ap (λ d. truths m h.states d t) of_d) in
    let next_levels : next.levels ≡ levels = ap (λ (v : Snapshot). v.levels) snapshot in
    let next_discretes : next.discretes ≡ new.d = ap (λ (v : Snapshot). v.discretes) snapshot in
    let next_states : next.states ≡ h.states = ap (λ (v : Snapshot). v.states) end in
    let slopes : List ℤ = tabulate (state_count m) (λ j. slope_at m j levels new.d) in
    let each = taken.stands.stands_for.left.one_each in
    let many_levels = ap length (next_levels ∙ are_fresh) ∙ c.requantize.ensures.taken.1.others.as_many ∙ fits.levels in
    let many_discretes = ap length next_discretes ∙ handled.fits.discretes in
    let of_slopes = ap (λ l. tabulate (state_count m) (λ j. slope_at m j l new.d)) (sym next_levels)
    ∙ ap (λ d. tabulate (state_count m) (λ j. slope_at m j next.levels d)) (sym next_discretes) in
    let touched : replaced_lines_from (state_count m) t x next.levels slopes s.states.lines.items ≤ touches_at m t w (Ok next) =
    renewals_from_touched m t w next each many_levels fits.values.discretes many_discretes s.states.lines.items slopes
    (λ j inside. (taken.stands.stands_for.lines j inside).own_level) (λ j inside. (taken.stands.stands_for.lines j inside).own_slope)
    of_slopes x
    (λ j inside none.
    sym (int_at-states_at s.states.lines.items t j (omega (arith, inside, fits.lines))) ∙ ap (λ xs. int_at xs j) files_read ∙ sym (kept_state m t w j none)
    ∙ ap (λ (k : HandlerState). int_at k.states j) (sym is_h) ∙ ap (λ xs. int_at xs j) (sym of_x)) in
    let counted : c.continue_after_handlers.new.steps ≡ c.args.steps.now + replaced_lines_from (state_count m) t x next.levels slopes s.states.lines.items =
    (rw of_lines at c.continue_after_handlers.ensures.counted) ∙ ap (λ l. c.args.steps.now + replaced_lines_from (state_count m) t x l slopes s.states.lines.items) (sym next_levels) in
    let allowed_now : AreNextLevels (IsAllowedLevel c.args.q.now.name) m h.states s.states.levels.items levels =
    subst (λ l. AreNextLevels (IsAllowedLevel c.args.q.now.name) m h.states s.states.levels.items l) (sym are_fresh) allowed in
    record {
      visited = record {
        stepped = steps_to (IsAllowedLevel c.args.q.now.name) m t w next h fresh is_h calm_h allowed (sym fine ∙ over) end;
        rows = λ none.
            ap (λ v. v.items) c.continue_after_handlers.ensures.rows
            ∙ c.requantize.ensures.rows fine h.states to
            ∙ ap (λ r. r ++ level_rows t s.states.levels.items levels h.states) (ap (λ (v : Values). v.log) handled.values ∙ ap (λ (k : HandlerState). k.rows) is_h)
            ∙ ap (λ l. (handlers_at m t w).rows ++ level_rows t s.states.levels.items l h.states) (sym next_levels)
            ∙ ap (λ y. (handlers_at m t w).rows ++ level_rows t s.states.levels.items next.levels y) (sym next_states);
        stands = λ none. c.continue_after_handlers.ensures.stands;
        room = ap (λ v. vec_capacity v) c.continue_after_handlers.ensures.rows ∙ c.requantize.ensures.room;
        counted = omega (arith, counted, touched);
      };
      kept = λ none j inside unaffected.
          let still : IsUntouched m t w next j = untouched m t w next j unaffected in
          let goes : goes_from t (int_at x j) (int_at next.levels j) (int_at slopes j) (line_at s.states.lines.items j) ≡ true =
          goes_on_from m t w next each many_levels fits.values.discretes many_discretes s.states.lines.items slopes
          (λ k known. (taken.stands.stands_for.lines k known).own_level) (λ k known. (taken.stands.stands_for.lines k known).own_slope)
          of_slopes x j inside still (on_line m c.args.before agenda s taken c.requires.in_time moved assigned new h handled is_h c.args.q.now.name levels allowed_now next next_levels j inside still) in
          let line : line_at last.states.lines.items j ≡ line_at s.states.lines.items j =
          (rw of_lines at c.continue_after_handlers.ensures.kept j inside)
          (ap (λ l. goes_from t (int_at x j) (int_at l j) (slope_at m j levels new.d) (line_at s.states.lines.items j)) (sym next_levels)
          ∙ ap (λ z. goes_from t (int_at x j) (int_at next.levels j) z (line_at s.states.lines.items j)) (sym (int_at-tabulate (state_count m) (λ k. slope_at m k levels new.d) j inside))
          ∙ goes) in (
            line,
            same_due m c.args.before agenda s taken c.requires.in_time moved assigned new h handled is_h c.args.q.now.name levels allowed_now next next_levels j inside still
                c.handle_changed_conditions.new.agenda last.agenda (c.handle_changed_conditions.ensures.without calm) (line_at last.states.lines.items j) line
                (c.continue_after_handlers.ensures.stands.stands_for.dues j inside),
            not_due m c.args.before agenda s taken c.requires.in_time moved assigned new h handled is_h c.args.q.now.name levels allowed_now next next_levels j inside still,
          );
    }
