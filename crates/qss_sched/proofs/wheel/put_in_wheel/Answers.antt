use Rattle.qss_sched.proofs.Wheels.{came_in}
use Rattle.qss_sched.proofs.wheel.put_in_wheel.Goals as goal

pub returns-clause-wheel : goal.returns-clause-wheel
returns-clause-wheel c = λ base from until a.
    came_in _ _ _ _ base c.args.place c.args.tick a c.requires.place c.requires.near from until c.requires.none c.put_due_tick.ensures.put c.put_due_tick.ensures.size_limit
    c.enter.ensures.there c.enter.ensures.others
