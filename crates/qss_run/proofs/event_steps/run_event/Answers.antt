-- What is to be evaluated at the next tick was removed from the event queue.
use Rattle.qss_run.proofs.Common
use Common.{◌+◌, ◌<◌, ◌∙◌, ◌≡◌, arith, conditions, conditions_few, length, state_count, Store, sym}
use Rattle.qss_run.proofs.Jumps.{dues_later}
use Rattle.qss_run.proofs.Takes.{none_left_before, none_called_before, is_taken, none_to_call}
use Rattle.qss_run.proofs.event_steps.run_event.Goals as goal

pub overflow_cast-conditions : goal.overflow_cast-conditions
overflow_cast-conditions g c =
    omega (arith, c.len-conditions.ensures, c.args.s.now.conditions.branches.ok.0, c.requires.stands.fits.own_conditions.branches.as_many, conditions_few c.args.m.now)

pub make_risen_due-requires-clause-ready : goal.make_risen_due-requires-clause-ready
make_risen_due-requires-clause-ready g c =
    let m = c.args.m.now in
    let s : Store = c.args.s.now in
    let fits = c.requires.stands.fits in
    let own = fits.own_conditions in
    record {
      flipped = record { as_many = own.at_arrival ∙ sym own.after_handlers; count = own.flipped ∙ sym own.after_handlers; alike = c.requires.stands.alike };
      places = omega (arith, fits.places, c.len-states.ensures, s.states.lines.ok.0, fits.lines, own.after_handlers);
      few = omega (arith, c.len-states.ensures, s.states.lines.ok.0, fits.lines, m.has_variables.few, own.after_handlers, conditions_few m);
    }

pub make_risen_due-requires-clause-none_risen : goal.make_risen_due-requires-clause-none_risen
make_risen_due-requires-clause-none_risen g c calm place h = none_to_call c.args.m.now c.args.before c.args.s.now c.requires.stands calm place

pub take_due_states-requires-clause-none_before : goal.take_due_states-requires-clause-none_before
take_due_states-requires-clause-none_before g c =
    let s : Store = c.args.s.now in
    let fits = c.requires.stands.fits in
    none_called_before c.len-states.result (c.args.before + 1) s.conditions s.agenda c.make_risen_due.new.agenda c.make_risen_due.ensures
    (omega (arith, fits.places, c.len-states.ensures, s.states.lines.ok.0, fits.lines, fits.own_conditions.after_handlers))
    (λ place due e. omega (arith, dues_later c.args.m.now c.args.before s c.requires.stands place due e))

pub take_due_conditions-requires-clause-count_limit : goal.take_due_conditions-requires-clause-count_limit
take_due_conditions-requires-clause-count_limit g c =
    let s : Store = c.args.s.now in
    omega (
      arith,
      c.len-states.ensures,
      s.states.lines.ok.0,
      c.requires.stands.fits.lines,
      c.args.m.now.has_variables.few,
      c.len-conditions.ensures,
      s.conditions.branches.ok.0,
      c.requires.stands.fits.own_conditions.branches.as_many,
      conditions_few c.args.m.now,
    )

pub take_due_conditions-requires-clause-none_before : goal.take_due_conditions-requires-clause-none_before
take_due_conditions-requires-clause-none_before g c =
    let s : Store = c.args.s.now in
    let fits = c.requires.stands.fits in
    none_left_before c.len-states.result (c.args.before + 1) c.take_due_states.new.moved.items c.make_risen_due.new.agenda c.take_due_states.new.agenda c.take_due_states.ensures.due c.take_due_states.ensures.out.without
    (none_called_before c.len-states.result (c.args.before + 1) s.conditions s.agenda c.make_risen_due.new.agenda c.make_risen_due.ensures
    (omega (arith, fits.places, c.len-states.ensures, s.states.lines.ok.0, fits.lines, fits.own_conditions.after_handlers))
    (λ place due e. omega (arith, dues_later c.args.m.now c.args.before s c.requires.stands place due e)))

pub run_due_event-requires : goal.run_due_event-requires
run_due_event-requires g c =
    let m = c.args.m.now in
    let s : Store = c.args.s.now in
    let fits = c.requires.stands.fits in
    let states : c.len-states.result ≡ state_count m = omega (arith, c.len-states.ensures, s.states.lines.ok.0, fits.lines) in
    let places : c.len-conditions.result ≡ length (conditions m) = omega (arith, c.len-conditions.ensures, s.conditions.branches.ok.0, fits.own_conditions.branches.as_many) in
    record {
      taken = (
        s.agenda,
        is_taken m c.args.before s c.len-states.result c.len-conditions.result c.take_due_states.new.moved c.take_due_conditions.new.changed
            c.make_risen_due.new.agenda c.take_due_states.new.agenda c.take_due_conditions.new.agenda c.requires.stands states places
            c.make_risen_due.ensures c.take_due_states.ensures.due c.take_due_states.ensures.out.without c.take_due_conditions.ensures.changing c.take_due_conditions.ensures.taken c.take_due_states.ensures.out.room c.take_due_conditions.ensures.room,
      );
      in_time = c.requires.in_time;
    }

pub returns-clause-visited : goal.returns-clause-visited
returns-clause-visited g c =
    let visited = c.run_due_event.ensures.visited in
    record { stepped = visited.stepped; rows = visited.rows; stands = visited.stands; room = visited.room; counted = visited.counted }

pub returns-clause-kept : goal.returns-clause-kept
returns-clause-kept g c none j inside unaffected =
    let s : Store = c.args.s.now in
    let known : j < c.len-states.result = omega (arith, inside, c.len-states.ensures, s.states.lines.ok.0, c.requires.stands.fits.lines) in
    let kept = c.run_due_event.ensures.kept none j inside unaffected in (
      kept.0,
      kept.1 ∙ c.take_due_conditions.ensures.taken.before j known ∙ c.take_due_states.ensures.out.without.others j kept.2 ∙ c.make_risen_due.ensures.states j known,
    )
