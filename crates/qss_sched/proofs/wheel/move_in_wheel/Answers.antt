-- The place is removed from its slot and added to the other one.
use Rattle.qss_sched.proofs.Common.{◌∙◌, ap, None, slice_set, Some}
use Rattle.std.proofs.lemmas.List.{set-set}
use Rattle.qss_sched.proofs.wheel.move_in_wheel.Goals as goal

pub put_in_wheel-requires-clause-wheel : goal.put_in_wheel-requires-clause-wheel
put_in_wheel-requires-clause-wheel c = (c.requires.wheel.0, c.take_out_of_wheel.ensures.wheel c.requires.wheel.0 c.requires.wheel.1)

pub returns-clause-due : goal.returns-clause-due
returns-clause-due c =
    c.put_in_wheel.ensures.due
    ∙ (ap (λ l. slice_set l c.args.place (Some c.args.tick)) c.take_out_of_wheel.ensures.due ∙ set-set c.args.due.now c.args.place None (Some c.args.tick))

pub returns-clause-wheel : goal.returns-clause-wheel
returns-clause-wheel c = λ base from until a. c.put_in_wheel.ensures.wheel base from until (c.take_out_of_wheel.ensures.wheel base a)
