-- The least marked place at the next slot is the first.
use Rattle.qss_sched.proofs.Common.{◌+◌}
use Rattle.qss_sched.proofs.Wheels.{none_due, first_due}
use Rattle.qss_sched.proofs.wheel.Wheel.first.Goals as goal

pub overflow_add-result : goal.overflow_add-result
overflow_add-result c =
    let w = c.self.inside in
    let first = first_due w.due.items w.marks w.base c.in-Some.later c.in-Some.place c.self.invariant c.in-Some.ensures in
    record { fits = c.self.invariant.small c.in-Some.place (w.base + c.in-Some.later) first.has }

pub returns-in-None : goal.returns-in-None
returns-in-None c =
    let w = c.self.inside in rw (← c.self.view_is) (none_due w.due.items w.marks w.base c.self.invariant c.in-None.ensures)

pub returns-in-Some : goal.returns-in-Some
returns-in-Some c =
    let w = c.self.inside in
    rw (← c.self.view_is) (first_due w.due.items w.marks w.base c.in-Some.later c.in-Some.place c.self.invariant c.in-Some.ensures)
