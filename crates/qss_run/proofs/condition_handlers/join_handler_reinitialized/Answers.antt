-- Where no state was reinitialized, all is as it was. Else those that are due at the tick, once all
-- are in the event queue, are the moved states.
use Rattle.qss_run.proofs.Common.{◌∙◌, arith, rules, sym}
use Rattle.qss_run.proofs.Reinitialized.{AreGiven, joined, joined_without, joins_nothing}
use Rattle.qss_run.proofs.condition_handlers.join_handler_reinitialized.Goals as goal

pub take_due_states-requires-clause-has : goal.take_due_states-requires-clause-has
take_due_states-requires-clause-has c = record { room = c.requires.has.room; places = omega (arith, c.requires.has.places, c.put_back_states.ensures.same_length, c.schedule_handler_reinitialized.ensures.same_length) }

pub returns-clause-each : goal.returns-clause-each
returns-clause-each c =
    let back = c.put_back_states.ensures in
    let given : AreGiven c.args.tick c.args.log.now c.put_back_states.new.agenda c.schedule_handler_reinitialized.new.agenda = record { as_many = c.schedule_handler_reinitialized.ensures.same_length; given = c.schedule_handler_reinitialized.ensures.given; others = c.schedule_handler_reinitialized.ensures.others } in
    joined c.args.states c.args.tick c.args.log.now c.args.moved.now.items c.take_due_states.new.moved.items c.args.agenda.now c.put_back_states.new.agenda c.schedule_handler_reinitialized.new.agenda c.take_due_states.new.agenda
    c.requires.taken.later c.requires.known c.requires.moved back.same_length (search rules) (search rules) given c.take_due_states.ensures.due c.take_due_states.ensures.out.without

pub returns-clause-out : goal.returns-clause-out
returns-clause-out c =
    let back = c.put_back_states.ensures in
    let given : AreGiven c.args.tick c.args.log.now c.put_back_states.new.agenda c.schedule_handler_reinitialized.new.agenda = record { as_many = c.schedule_handler_reinitialized.ensures.same_length; given = c.schedule_handler_reinitialized.ensures.given; others = c.schedule_handler_reinitialized.ensures.others } in
    record {
      without = joined_without c.args.states c.args.tick c.args.log.now c.args.moved.now.items c.take_due_states.new.moved.items c.args.agenda.now c.put_back_states.new.agenda c.schedule_handler_reinitialized.new.agenda c.take_due_states.new.agenda
          c.requires.taken.later c.requires.known c.requires.moved back.same_length (search rules) (search rules) given c.take_due_states.ensures.due c.take_due_states.ensures.out.without;
      room = c.take_due_states.ensures.out.room;
    }

pub returns-then-not-has_handler_reinitialization-clause-each : goal.returns-then-not-has_handler_reinitialization-clause-each
returns-then-not-has_handler_reinitialization-clause-each c = joins_nothing c.args.log.now (sym c.has_handler_reinitialization.ensures ∙ c.if-not-has_handler_reinitialization.true) c.args.moved.now.items
