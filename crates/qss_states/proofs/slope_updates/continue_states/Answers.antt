-- The moved states, those whose rows read a change, and the others.
use Rattle.qss_states.proofs.Common
use Common.{ℕ, ℤ, ◌<◌, ◌∙◌, ◌≡◌, and_parts, ap, arith, Bool, CanRestart, CanSchedule, due_at, false}
use Common.{goes_from, has_level_and_slope, index_of, int_at, int_at-tabulate, is_listed}
use Common.{IsLineWithinQuantum, IsRestartedFrom, length, length-map-range_with_len, level_unit}
use Common.{Line, line_at, List, NewSlopes, Option, quantum_of, refl, replaced_lines, Schedules}
use Common.{slope_at, state_count, states_with, subst, sym, true}
use Rattle.std.proofs.lemmas.Bool.{false_from_ne_true}
use Rattle.qss_states.specs.EventContexts.{new_slopes, CanUpdateSlopes}
use Rattle.qss_states.proofs.Courses.{may_reslope_again}
use Rattle.qss_states.proofs.Renewed.{none_left}
use Rattle.qss_states.proofs.Reseating.{moved_state, left_seated, may_reslope_seated}
use Rattle.qss_states.proofs.Reseating.{renewals_seated, reseated}
use Rattle.qss_states.proofs.GoingOn.{slopes_small, still_on}
use Rattle.qss_states.proofs.slope_updates.continue_states.Goals.{After-restart_state_slopes}
use Rattle.qss_states.proofs.slope_updates.continue_states.Given as given
use Rattle.qss_states.proofs.slope_updates.continue_states.Goals as goal

-- the states may continue at the new slopes
may_schedule : (at : NewSlopes) (slopes : List ℤ) (lines : List Line) (dues : List (Option ℕ)) →
    CanRestart at.event at.handled slopes lines dues →
    at.slopes.now ≡ new_slopes at.event at.handled.discretes.now → CanSchedule at lines dues
may_schedule at slopes lines dues can are =
    let m = at.event.machine.now in
    let levels = at.event.levels.now in
    let d = at.handled.discretes.now in
    record {
      new = can.new;
      one_each = record {
        slopes = ap length are
            ∙ length-map-range_with_len (λ j. slope_at m j levels d) 0 (state_count m);
        lines = can.one_each.lines;
        places = can.one_each.places;
      };
      small_slopes = slopes_small m levels d d at.slopes.now can.levels.light refl are;
      in_time = can.held.may_move.in_time;
    }

pub restart_state_slopes-requires : goal.restart_state_slopes-requires
restart_state_slopes-requires g c =
    let at = c.args.at.now in
    let m = at.event.machine.now in
    let moved = at.event.moved.now in
    let levels = at.event.levels.now in
    let can = c.requires.before.1 in
    record {
      on = may_schedule at c.requires.before.0 c.args.lines.now c.args.agenda.now can c.requires.slopes;
      states = record { as_many = can.handled.values.states; small = can.handled.values.small_states };
      may_move = can.held.may_move;
      near = λ j among.
          let found = index_of moved j among in
          let h : j < state_count m = omega (arith, found.2, can.new.moved.below found.0 0 found.1) in
          subst (λ x. IsLineWithinQuantum (level_unit m) x (int_at levels j) (quantum_of m j (int_at levels j)))
          (moved_state c.args.lines.now at.event.tick moved at.handled.states.now j (omega (arith, h, can.one_each.lines)) among) (can.levels.near j h);
    }

-- after the moved states restarted, each state may continue at its new slope
may_update : (g : given.Over) (c : After-restart_state_slopes g) →
    CanUpdateSlopes c.args.at.now c.restart_state_slopes.new.lines c.restart_state_slopes.new.agenda
may_update g c =
    let at = c.args.at.now in
    let can = c.requires.before.1 in
    let held = can.held in
    let first : Schedules = record { lines = c.args.lines.now; dues = c.args.agenda.now } in
    let between : Schedules = record { lines = c.restart_state_slopes.new.lines; dues = c.restart_state_slopes.new.agenda } in
    record {
      on = still_on at first.lines between.lines first.dues between.dues
          (may_schedule at c.requires.before.0 first.lines first.dues can c.requires.slopes)
          c.restart_state_slopes.auto.lines c.restart_state_slopes.ensures.go_on.others.dues.places;
      each = λ j h.
          may_reslope_seated at.event.machine.now at.event.tick at.handled.states.now at.event.levels.now at.slopes.now at.event.moved.now first between
          c.restart_state_slopes.ensures.go_on can.one_each.lines can.small_states j h (held.earlier j h)
          (λ none. held.before.1.levels.of_lines.own_levels j h ∙ sym (held.before.1.levels.off.others j none)) (can.levels.near j h) (held.due j h);
    }

pub update_reader_slopes-requires-clause-allowed : goal.update_reader_slopes-requires-clause-allowed
update_reader_slopes-requires-clause-allowed g c =
    may_update g (goal.at.update_reader_slopes-requires-clause-allowed g c).After-restart_state_slopes

pub update_reader_slopes-requires-2-clause-allowed : goal.update_reader_slopes-requires-2-clause-allowed
update_reader_slopes-requires-2-clause-allowed g c =
    let at = c.args.at.now in
    let may = may_update g (goal.at.update_reader_slopes-requires-2-clause-allowed g c).After-restart_state_slopes in
    let did = c.update_reader_slopes.ensures.resloped in
    record {
      on = still_on at c.restart_state_slopes.new.lines c.update_reader_slopes.new.lines c.restart_state_slopes.new.agenda
          c.update_reader_slopes.new.agenda may.on c.update_reader_slopes.auto.lines did.as_many;
      each = λ j h.
          may_reslope_again at.event.machine.now at.event.tick (int_at at.event.levels.now j) (int_at at.slopes.now j) j (line_at c.restart_state_slopes.new.lines j)
          (line_at c.update_reader_slopes.new.lines j) (due_at c.restart_state_slopes.new.agenda j) (due_at c.update_reader_slopes.new.agenda j) (may.each j h) (did.each j h);
    }

pub returns : goal.returns
returns g c =
    let event = c.args.at.now.event in
    let left = c.args.at.now.handled in
    let m = event.machine.now in
    let n : ℕ = state_count m in
    let tick = event.tick in
    let moved = event.moved.now in
    let levels = event.levels.now in
    let slopes = c.args.at.now.slopes.now in
    let x = left.states.now in
    let d = left.discretes.now in
    let can = c.requires.before.1 in
    let held = can.held in
    let many = can.one_each.lines in
    let lines = c.args.lines.now in
    let first : Schedules = record { lines = lines; dues = c.args.agenda.now } in
    let between : Schedules = record { lines = c.restart_state_slopes.new.lines; dues = c.restart_state_slopes.new.agenda } in
    let next : Schedules = record { lines = c.update_reader_slopes.new.lines; dues = c.update_reader_slopes.new.agenda } in
    let last : Schedules = record { lines = c.update_reader_slopes-2.new.lines; dues = c.update_reader_slopes-2.new.agenda } in
    let begun = c.restart_state_slopes.ensures.go_on in
    let of_moved = c.update_reader_slopes.ensures.resloped in
    let of_assigned = c.update_reader_slopes-2.ensures.resloped in
    let slope : (j : ℕ) → j < n → int_at slopes j ≡ slope_at m j levels d = λ j h.
    ap (λ zs. int_at zs j) c.requires.slopes ∙ int_at-tabulate n (λ k. slope_at m k levels d) j h in
    let own : (j : ℕ) → j < n →
    IsRestartedFrom m tick (int_at (states_with lines tick moved x) j) (int_at levels j)
    (slope_at m j levels d) j (line_at last.lines j) (due_at last.dues j) = λ j h.
    reseated m tick x levels slopes moved first between begun many left.assigned.now held.before.0
    left.before.now d c.requires.before.0 next last of_moved of_assigned held.before.1
    can.handled.assigned.others c.requires.slopes can.new.levels can.handled.many_before
    can.handled.values.discretes j h (held.may_move.later j (omega (arith, h, many)))
    (held.own_slope j h) (held.due j h) in
    record {
      continued = record {
        lines = own;
        kept = λ j h so.
            let from : goes_from tick (int_at (states_with lines tick moved x) j) (int_at levels j)
            (int_at slopes j) (line_at lines j) ≡ true = rw (slope j h) so in
            let seated = left_seated m tick x levels slopes moved first between begun many c.restart_state_slopes.ensures.kept j h from in
            let goes : Line → Bool = has_level_and_slope (int_at levels j) (int_at slopes j) in
            let at : goes (line_at lines j) ≡ true = (and_parts _ (goes (line_at lines j)) from).1 in
            let second = of_moved.left j h (ap goes seated ∙ at) in
            of_assigned.left j h (ap goes (second ∙ seated) ∙ at) ∙ second ∙ seated;
        line_count = c.update_reader_slopes-2.auto.lines ∙ c.update_reader_slopes.auto.lines
            ∙ c.restart_state_slopes.auto.lines;
        places = of_assigned.as_many ∙ of_moved.as_many ∙ begun.others.dues.places;
        others = λ place past.
            let none : is_listed moved place ≡ false = false_from_ne_true (is_listed moved place) (λ among.
            let found = index_of moved place among in omega (arith, past, found.2, can.new.moved.below found.0 0 found.1)) in
            of_assigned.others place past ∙ of_moved.others place past ∙ begun.others.dues.others place none;
      };
      counted =
          let none : replaced_lines n levels slopes last.lines ≡ 0 =
          none_left n levels slopes last.lines (λ j h. ((own j h).own_level, (own j h).own_slope ∙ sym (slope j h))) in
          let seated = c.restart_state_slopes.ensures.counted (states_with lines tick moved x) (λ j among.
          let found = index_of moved j among in
          moved_state lines tick moved x j (omega (arith, found.2, can.new.moved.below found.0 0 found.1, many)) among) in
          let same = renewals_seated m tick x levels slopes moved first between begun many in
          omega (arith, none, seated, same, c.update_reader_slopes.ensures.counted, c.update_reader_slopes-2.ensures.counted);
    }
