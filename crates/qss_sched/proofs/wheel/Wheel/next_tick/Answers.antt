use Rattle.qss_sched.proofs.Least.{next_of_least, next_of_none}
use Rattle.qss_sched.proofs.wheel.Wheel.next_tick.Goals as goal

pub returns-in-Some : goal.returns-in-Some
returns-in-Some c = next_of_least _ c.args.last c.in-Some.tick _ c.min.result c.in-Some.ensures c.min.ensures

pub returns-in-None : goal.returns-in-None
returns-in-None c = next_of_none _ c.args.last c.in-None.ensures
