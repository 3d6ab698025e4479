-- The branches of the conditions that hold on arrival, and did not both before, are those that are due.
use Rattle.qss_run.proofs.Common
use Common.{[], ℕ, ℤ, ◌<◌, ◌||◌, ◌∙◌, ◌≡◌, All, all_within, ap, AreAlikeBut, AreBranches}
use Common.{AreConditionsOf, AreRisingBelow, AreValuesOf, arith, assigned_of, clash, Conditions}
use Common.{conditions, detector_at, eqb-true, Err, false, first_exceeding, flag_at, HandlerState}
use Common.{handling_from, handling_of_fired, holds_at, is_listed, is_reinitialized, is_some}
use Common.{IsHandlerEffect, IsWithin, IsWritten, length, line_at, List, None, overflow_of}
use Common.{PlaceList, pos, refl, Result, Row, rules, state_at, state_count, states_at, StatesAt}
use Common.{subst, sym, true, Values, vec_len}
use Rattle.qss_hand.specs.declared.handler_statements.Over.{Over}
use Rattle.qss_run.proofs.Arrivals.{lists_flipped, may_be_read, fired_numbers, read_on_arrival}
use Rattle.qss_run.proofs.Arrivals.{read_handling, rows_fired, known_states, is_handled, idle}
use Rattle.qss_run.proofs.Arrivals.{idle_effect}
use Rattle.std.proofs.lemmas.List.{nil_from_length}
use Rattle.qss_run.proofs.Handled.{over_early}
use Rattle.qss_run.proofs.OwnConditions.{arrived_anew}
use Rattle.qss_run.proofs.run_conditions.Conditions.handle_changed_conditions.Goals as goal

-- After an error, nothing has to be shown for the case without an overflow.
unless_over : {A T : Type 0} (result : Result T Over) (over : Over) → result ≡ Err over → overflow_of result ≡ None → A
unless_over result over given none = clash (overflow_of result) (ap is_some (ap overflow_of given)) none

-- Once the truths on arrival are read, the conditions are alike but for the evaluated ones, and fit their machine.
still_alike : (at : StatesAt) (changed : List ℕ) (all left : Conditions) → IsWritten false (λ place flag. flag ≡ holds_at (detector_at all.detectors.items place) at.tick) changed all.after_handlers.items left.at_arrival.items →
    left ≡ record all { at_arrival = left.at_arrival; flipped = left.flipped } → AreAlikeBut changed left.at_arrival.items left.after_handlers.items
still_alike at changed all left read rest place none = read.others place none ∙ sym (ap (λ (v : Conditions). flag_at v.after_handlers.items place) rest)

still_fits : (at : StatesAt) (changed : List ℕ) (all left : Conditions) → AreConditionsOf at.machine.now all → IsWritten false (λ place flag. flag ≡ holds_at (detector_at all.detectors.items place) at.tick) changed all.after_handlers.items left.at_arrival.items →
    left.flipped ≡ record all.flipped { places = [] } → left ≡ record all { at_arrival = left.at_arrival; flipped = left.flipped } → AreConditionsOf at.machine.now left
still_fits at changed all left fits read flipped rest =
    subst (AreConditionsOf at.machine.now) (sym rest)
    (arrived_anew at.machine.now all left.at_arrival left.flipped fits (read.as_many ∙ fits.after_handlers) (ap (λ (s : PlaceList). s.count) flipped))

pub move_due_handler_states-requires : goal.move_due_handler_states-requires
move_due_handler_states-requires c =
    let lines = c.requires.ready.lines in
    let values = c.requires.ready.values in
    record {
      as_many = values.states ∙ sym lines.up_to.as_many;
      numbers = subst (λ n. AreRisingBelow n c.deref.result.now) (sym lines.up_to.as_many)
          (subst (AreRisingBelow (state_count c.args.at.now.machine.now)) (sym c.deref.ensures.value) lines.numbers);
      later = lines.up_to.later;
      in_time = lines.up_to.in_time;
      others_small = λ j h none. lines.others_small j (omega (arith, h, lines.up_to.as_many)) (ap (λ js. is_listed js j) (sym c.deref.ensures.value) ∙ none);
      small = values.small_states;
    }

pub returns-in_err-move_due_handler_states : goal.returns-in_err-move_due_handler_states
returns-in_err-move_due_handler_states c =
    let all : Conditions = c.args.self.now in
    let given : c.from_residual.result ≡ Err c.in_err-move_due_handler_states.field-0.0 = search rules in
    let over : overflow_of c.from_residual.result ≡ overflow_of c.move_due_handler_states.result = ap overflow_of given ∙ ap overflow_of (sym c.in_err-move_due_handler_states.was) in
    record {
      overflow = over_early c.args.at.now.machine.now c.args.at.now.tick (states_at c.args.at.now.states.now.lines.items c.args.at.now.tick) c.args.work.now.d all.at_arrival.items all.after_handlers.items
          (overflow_of c.from_residual.result) (ap is_some (ap overflow_of given)) (over ∙ c.move_due_handler_states.ensures.at_arrival.over_is);
      handled = unless_over c.from_residual.result _ given;
      at_arrival = unless_over c.from_residual.result _ given;
      alike = unless_over c.from_residual.result _ given;
      none_apart = unless_over c.from_residual.result _ given;
      rest = refl;
      fits = unless_over c.from_residual.result _ given;
      without = unless_over c.from_residual.result _ given;
      changed = refl;
      lists = c.requires.lists;
    }

pub list_fired-requires : goal.list_fired-requires
list_fired-requires c =
    let known = c.requires.ready.known in
    let calm : first_exceeding 88 (states_at c.args.at.now.states.now.lines.items c.args.at.now.tick) ≡ None = sym c.move_due_handler_states.ensures.at_arrival.over_is ∙ ap overflow_of c.in_ok-move_due_handler_states.was in
    record {
      read = rw c.deref-changed.ensures.value (may_be_read c.args.at.now c.args.moment.now.changed.items c.args.self.now c.args.work.now.d known calm c.requires.ready.lines.up_to.in_time);
      flipped = lists_flipped c.args.at.now c.args.moment.now.changed.items c.args.self.now c.args.work.now.d known;
      room = omega (arith, known.fits.after_handlers, c.requires.lists.fired);
    }

pub read_changed-requires-clause-read : goal.read_changed-requires-clause-read
read_changed-requires-clause-read c =
    let calm : first_exceeding 88 (states_at c.args.at.now.states.now.lines.items c.args.at.now.tick) ≡ None = sym c.move_due_handler_states.ensures.at_arrival.over_is ∙ ap overflow_of c.in_ok-move_due_handler_states.was in
    rw c.deref-changed.ensures.value (may_be_read c.args.at.now c.args.moment.now.changed.items c.args.self.now c.args.work.now.d c.requires.ready.known calm c.requires.ready.lines.up_to.in_time)

pub handle_fired_conditions-requires : goal.handle_fired_conditions-requires
handle_fired_conditions-requires c =
    let all : Conditions = c.args.self.now in
    let ready = c.requires.ready in
    let values = ready.values in
    let count : ℕ = length c.deref-2.result.now in
    let kept : c.deref-2.result.now ≡ all.branches.items = c.deref-2.ensures.value ∙ ap (λ (v : Conditions). v.branches.items) c.read_changed.ensures.rest in
    let places : count ≡ length (conditions c.args.at.now.machine.now) = ap length kept ∙ ready.known.fits.branches.as_many in
    let calm : first_exceeding 88 (states_at c.args.at.now.states.now.lines.items c.args.at.now.tick) ≡ None = sym c.move_due_handler_states.ensures.at_arrival.over_is ∙ ap overflow_of c.in_ok-move_due_handler_states.was in
    let of_d = ap (λ (v : Values). v.d) c.move_due_handler_states.ensures.work in
    record {
      due = record {
        of = subst (AreBranches c.args.at.now.machine.now) (sym kept) ready.known.fits.branches;
        numbers = subst (AreRisingBelow count) (sym (c.deref-3.ensures.value ∙ rw c.deref-changed.ensures.value at c.list_fired.ensures.fired))
            (fired_numbers all.after_handlers.items all.at_arrival.items c.args.moment.now.changed.items (λ place. holds_at (detector_at all.detectors.items place) c.args.at.now.tick) count
            (subst (λ n. AreRisingBelow n c.args.moment.now.changed.items) (sym places) ready.known.numbers));
      };
      lines = record { up_to = ready.lines.up_to; small = all_within 88 _ calm };
      values = record {
        states = c.move_due_handler_states.ensures.at_arrival.at_arrival.as_many ∙ values.states;
        discretes = ap length of_d ∙ values.discretes;
        small_states = c.move_due_handler_states.ensures.at_arrival.small (ap overflow_of c.in_ok-move_due_handler_states.was);
        small_discretes = subst (All (IsWithin 43)) (sym of_d) values.small_discretes;
      };
      room = search rules;
    }

pub returns-in_err-handle_fired_conditions : goal.returns-in_err-handle_fired_conditions
returns-in_err-handle_fired_conditions c =
    let all : Conditions = c.args.self.now in
    let ready = c.requires.ready in
    let m = c.args.at.now.machine.now in
    let tick = c.args.at.now.tick in
    let x : List ℤ = states_at c.args.at.now.states.now.lines.items tick in
    let calm : first_exceeding 88 x ≡ None = sym c.move_due_handler_states.ensures.at_arrival.over_is ∙ ap overflow_of c.in_ok-move_due_handler_states.was in
    let same : handling_of_fired m tick x c.move_due_handler_states.new.work.d c.deref-3.result.now ≡ handling_from m tick x c.args.work.now.d all.at_arrival.items all.after_handlers.items =
    read_handling c.args.at.now c.args.moment.now.changed.items all c.args.work.now.d ready.known c.read_changed.new.self.at_arrival.items (rw c.deref-changed.ensures.value at c.read_changed.ensures.at_arrival)
    c.move_due_handler_states.new.work.d c.deref-3.result.now calm (ap (λ (v : Values). v.d) c.move_due_handler_states.ensures.work) (c.deref-3.ensures.value ∙ rw c.deref-changed.ensures.value at c.list_fired.ensures.fired) in
    let result = c.from_residual-in_err-handle_fired_conditions.result in
    let given : result ≡ Err c.in_err-handle_fired_conditions.field-0.0 = search rules in
    record {
      overflow = ap overflow_of given ∙ ap overflow_of (sym c.in_err-handle_fired_conditions.was) ∙ c.handle_fired_conditions.ensures.overflow ∙ ap (λ (h : HandlerState). h.overflow) same;
      handled = unless_over result _ given;
      at_arrival = unless_over result _ given;
      alike = unless_over result _ given;
      none_apart = unless_over result _ given;
      rest = c.read_changed.ensures.rest;
      fits = unless_over result _ given;
      without = unless_over result _ given;
      changed = refl;
      lists = record {
        moved = c.requires.lists.moved;
        changed = c.requires.lists.changed;
        fired = omega (arith, c.list_fired.ensures.room, c.requires.lists.fired);
        assigned = c.requires.lists.assigned;
      };
    }

pub join_handler_reinitialized-requires-clause-moved : goal.join_handler_reinitialized-requires-clause-moved
join_handler_reinitialized-requires-clause-moved c = subst (λ n. AreRisingBelow n c.args.moment.now.moved.items) (sym (ap length c.as_slice.ensures)) c.requires.ready.lines.numbers

pub join_handler_reinitialized-requires-clause-known : goal.join_handler_reinitialized-requires-clause-known
join_handler_reinitialized-requires-clause-known c =
    let ready = c.requires.ready in
    let m = c.args.at.now.machine.now in
    let tick = c.args.at.now.tick in
    let lines = c.args.at.now.states.now.lines.items in
    let x : List ℤ = states_at lines tick in
    let calm : first_exceeding 88 x ≡ None = sym c.move_due_handler_states.ensures.at_arrival.over_is ∙ ap overflow_of c.in_ok-move_due_handler_states.was in
    let begun : Values = c.move_due_handler_states.new.work in
    let came : IsWritten (pos 0) (λ j z. z ≡ state_at (line_at lines j) tick) c.args.moment.now.moved.items c.args.work.now.x begun.x = subst (λ these. IsWritten (pos 0) (λ j z. z ≡ state_at (line_at lines j) tick) these c.args.work.now.x begun.x) c.deref.ensures.value c.move_due_handler_states.ensures.at_arrival.at_arrival in
    let none : overflow_of c.handle_fired_conditions.result ≡ None =
    ap overflow_of c.in_ok-handle_fired_conditions.was in
    let done : HandlerState = handling_of_fired m tick x c.move_due_handler_states.new.work.d c.deref-3.result.now in
    let log : c.deref-log.result.now ≡ done.rows = c.deref-log.ensures.value ∙ ap (λ (v : Values). v.log) c.work.view_is ∙ ap (λ (v : Values). v.log) (c.handle_fired_conditions.ensures.work none) in
    λ j e. subst (λ n. j < n) (sym (ap length c.as_slice.ensures))
    (known_states m tick lines c.args.moment.now.moved.items c.deref-3.result.now c.args.work.now begun c.handle_fired_conditions.new.work ready.lines.up_to.as_many calm came j (subst (λ rows. is_reinitialized rows j ≡ true) log e))

pub list_handler_assigned-requires : goal.list_handler_assigned-requires
list_handler_assigned-requires c =
    let tick = c.args.at.now.tick in
    let x : List ℤ = states_at c.args.at.now.states.now.lines.items tick in
    let none : overflow_of c.handle_fired_conditions.result ≡ None =
    ap overflow_of c.in_ok-handle_fired_conditions.was in
    let done : HandlerState = handling_of_fired c.args.at.now.machine.now tick x c.move_due_handler_states.new.work.d c.deref-3.result.now in
    let log : c.deref-log.result.now ≡ done.rows = c.deref-log.ensures.value ∙ ap (λ (v : Values). v.log) c.work.view_is ∙ ap (λ (v : Values). v.log) (c.handle_fired_conditions.ensures.work none) in
    omega (arith, ap length log, rows_fired c.args.at.now.machine.now tick x c.move_due_handler_states.new.work.d c.deref-3.result.now, c.requires.lists.assigned)

pub returns : goal.returns
returns c =
    let all : Conditions = c.args.self.now in
    let ready = c.requires.ready in
    let m = c.args.at.now.machine.now in
    let tick = c.args.at.now.tick in
    let lines = c.args.at.now.states.now.lines.items in
    let x : List ℤ = states_at lines tick in
    let calm : first_exceeding 88 x ≡ None = sym c.move_due_handler_states.ensures.at_arrival.over_is ∙ ap overflow_of c.in_ok-move_due_handler_states.was in
    let read = c.read_changed.ensures in
    let of_changed = c.deref-changed.ensures.value in
    let left : Conditions = c.read_changed.new.self in
    let begun : Values = c.move_due_handler_states.new.work in
    let fired : List ℕ = c.deref-3.result.now in
    let same : handling_of_fired m tick x begun.d fired ≡ handling_from m tick x c.args.work.now.d all.at_arrival.items all.after_handlers.items =
    read_handling c.args.at.now c.args.moment.now.changed.items all c.args.work.now.d ready.known left.at_arrival.items (rw of_changed at c.read_changed.ensures.at_arrival)
    begun.d fired calm (ap (λ (v : Values). v.d) c.move_due_handler_states.ensures.work) (c.deref-3.ensures.value ∙ rw c.deref-changed.ensures.value at c.list_fired.ensures.fired) in
    let came : IsWritten (pos 0) (λ j z. z ≡ state_at (line_at lines j) tick) c.args.moment.now.moved.items c.args.work.now.x begun.x = subst (λ these. IsWritten (pos 0) (λ j z. z ≡ state_at (line_at lines j) tick) these c.args.work.now.x begun.x) c.deref.ensures.value c.move_due_handler_states.ensures.at_arrival.at_arrival in
    let none : overflow_of c.handle_fired_conditions.result ≡ None = ap overflow_of c.in_ok-handle_fired_conditions.was in
    let done : HandlerState = handling_of_fired m tick x begun.d fired in
    let log : c.deref-log.result.now ≡ done.rows = c.deref-log.ensures.value ∙ ap (λ (v : Values). v.log) c.work.view_is ∙ ap (λ (v : Values). v.log) (c.handle_fired_conditions.ensures.work none) in
    let did = c.handle_fired_conditions.ensures in
    let listed : c.list_handler_assigned.new.assigned.items ≡ assigned_of done.rows = c.list_handler_assigned.ensures.assigned ∙ ap assigned_of log in
    record {
      overflow = sym none ∙ did.overflow ∙ ap (λ (h : HandlerState). h.overflow) same;
      handled = λ e. subst (IsHandlerEffect m tick lines c.args.moment.now.moved.items c.join_handler_reinitialized.new.moved.items c.list_handler_assigned.new.assigned.items c.args.work.now c.handle_fired_conditions.new.work) same
          (subst (λ assigned. IsHandlerEffect m tick lines c.args.moment.now.moved.items c.join_handler_reinitialized.new.moved.items assigned c.args.work.now c.handle_fired_conditions.new.work done) (sym listed) (is_handled m tick lines c.args.moment.now.moved.items fired c.args.work.now begun c.handle_fired_conditions.new.work ready.lines.up_to.as_many calm came
          c.move_due_handler_states.ensures.work (did.work none) (did.many none) (did.at_arrival none) (did.reinitialized none) c.join_handler_reinitialized.new.moved.items
          (λ j. c.join_handler_reinitialized.ensures.each j ∙ ap (λ (rows : List Row). is_listed c.args.moment.now.moved.items j || is_reinitialized rows j) log)
          (did.fits none) (subst (λ n. AreRisingBelow n c.join_handler_reinitialized.new.moved.items) (ap length c.as_slice.ensures) c.join_handler_reinitialized.ensures.numbers)));
      at_arrival = λ e. read_on_arrival c.args.at.now c.args.moment.now.changed.items all c.args.work.now.d ready.known left.at_arrival.items (rw of_changed at c.read_changed.ensures.at_arrival);
      alike = λ e. still_alike c.args.at.now c.args.moment.now.changed.items all left (rw of_changed at c.read_changed.ensures.at_arrival) read.rest;
      none_apart = λ e. ap (λ (s : PlaceList). s.places) read.flipped;
      rest = read.rest;
      fits = λ e. still_fits c.args.at.now c.args.moment.now.changed.items all left ready.known.fits (rw of_changed at c.read_changed.ensures.at_arrival) read.flipped read.rest;
      without = search rules;
      changed = refl;
      lists = record {
        moved = omega (arith, c.join_handler_reinitialized.ensures.out.room, c.requires.lists.moved);
        changed = c.requires.lists.changed;
        fired = omega (arith, c.list_fired.ensures.room, c.requires.lists.fired);
        assigned = omega (arith, c.list_handler_assigned.ensures.room, c.requires.lists.assigned);
      };
    }

-- Where no branch is due, the values on arrival are left.
pub returns-then-is_empty : goal.returns-then-is_empty
returns-then-is_empty c =
    let all : Conditions = c.args.self.now in
    let ready = c.requires.ready in
    let m = c.args.at.now.machine.now in
    let tick = c.args.at.now.tick in
    let lines = c.args.at.now.states.now.lines.items in
    let x : List ℤ = states_at lines tick in
    let calm : first_exceeding 88 x ≡ None = sym c.move_due_handler_states.ensures.at_arrival.over_is ∙ ap overflow_of c.in_ok-move_due_handler_states.was in
    let read = c.read_changed.ensures in
    let of_changed = c.deref-changed.ensures.value in
    let left : Conditions = c.read_changed.new.self in
    let old : Values = c.args.work.now in
    let begun : Values = c.move_due_handler_states.new.work in
    let of_d : begun.d ≡ old.d = ap (λ (v : Values). v.d) c.move_due_handler_states.ensures.work in
    let fired : List ℕ = c.list_fired.new.fired.items in
    let none : fired ≡ [] = nil_from_length fired (omega (arith, eqb-true (vec_len c.list_fired.new.fired) 0 (sym c.is_empty.ensures ∙ c.if-is_empty.true), c.list_fired.new.fired.ok.0)) in
    let same : handling_of_fired m tick x begun.d fired ≡ handling_from m tick x old.d all.at_arrival.items all.after_handlers.items =
    read_handling c.args.at.now c.args.moment.now.changed.items all old.d ready.known left.at_arrival.items (rw of_changed at c.read_changed.ensures.at_arrival) begun.d fired calm of_d (rw of_changed at c.list_fired.ensures.fired) in
    let came : IsWritten (pos 0) (λ j z. z ≡ state_at (line_at lines j) tick) c.args.moment.now.moved.items old.x begun.x = subst (λ these. IsWritten (pos 0) (λ j z. z ≡ state_at (line_at lines j) tick) these old.x begun.x) c.deref.ensures.value c.move_due_handler_states.ensures.at_arrival.at_arrival in
    let idles = idle m tick x begun.d fired none in
    let values : AreValuesOf m c.begin.new.self = subst (AreValuesOf m) (sym c.begin.ensures)
    (record {
      states = came.as_many ∙ ready.values.states;
      discretes = ap length of_d ∙ ready.values.discretes;
      before = ap length of_d ∙ ready.values.discretes;
      small_states = c.move_due_handler_states.ensures.at_arrival.small (ap overflow_of c.in_ok-move_due_handler_states.was);
      small_discretes = subst (All (IsWithin 43)) (sym of_d) ready.values.small_discretes;
      small_before = subst (All (IsWithin 43)) (sym of_d) ready.values.small_discretes;
      in_time = ready.lines.up_to.in_time;
    }) in
    record {
      overflow = ap (λ (h : HandlerState). h.overflow) (sym idles ∙ same);
      handled = λ e. subst (IsHandlerEffect m tick lines c.args.moment.now.moved.items c.args.moment.now.moved.items c.clear.new.self.items old c.begin.new.self) same
          (subst (λ assigned. IsHandlerEffect m tick lines c.args.moment.now.moved.items c.args.moment.now.moved.items assigned old c.begin.new.self (handling_of_fired m tick x begun.d fired))
          (sym (c.clear.ensures.items ∙ ap (λ (h : HandlerState). assigned_of h.rows) (sym idles)))
          (idle_effect m tick lines c.args.moment.now.moved.items fired old begun c.begin.new.self ready.lines.up_to.as_many calm came none c.move_due_handler_states.ensures.work c.begin.ensures values ready.lines.numbers));
      at_arrival = λ e. read_on_arrival c.args.at.now c.args.moment.now.changed.items all old.d ready.known left.at_arrival.items (rw of_changed at c.read_changed.ensures.at_arrival);
      alike = λ e. still_alike c.args.at.now c.args.moment.now.changed.items all left (rw of_changed at c.read_changed.ensures.at_arrival) read.rest;
      none_apart = λ e. ap (λ (s : PlaceList). s.places) read.flipped;
      rest = read.rest;
      fits = λ e. still_fits c.args.at.now c.args.moment.now.changed.items all left ready.known.fits (rw of_changed at c.read_changed.ensures.at_arrival) read.flipped read.rest;
      without = search rules;
      changed = refl;
      lists = record {
        moved = c.requires.lists.moved;
        changed = c.requires.lists.changed;
        fired = omega (arith, c.list_fired.ensures.room, c.requires.lists.fired);
        assigned = omega (arith, c.clear.ensures.capacity, c.requires.lists.assigned);
      };
    }
