-- The place leaves the slot of its tick.
use Rattle.qss_sched.proofs.Wheels.{went_out}
use Rattle.qss_sched.proofs.wheel.take_from_wheel.Goals as goal

pub returns-clause-wheel : goal.returns-clause-wheel
returns-clause-wheel c = λ base a.
    went_out _ _ _ _ base c.args.place c.args.tick a c.requires.has c.put_due_tick.ensures.put c.put_due_tick.ensures.size_limit c.leave.ensures.gone c.leave.ensures.others
