-- Where no place is left at the slot of the base all that were due are taken.
use Rattle.qss_sched.proofs.Common.{◌+◌, vec_len}
use Rattle.qss_sched.proofs.Takes.{all_taken}
use Rattle.qss_sched.proofs.Wheels.{none_at_base}
use Rattle.qss_sched.proofs.wheel.take_each.Goals as goal

pub returns-in-None-clause-taken : goal.returns-in-None-clause-taken
returns-in-None-clause-taken c =
    let inv = c.loop.invariant in
    all_taken c.args.first c.args.count (vec_len c.loop.taken) c.args.base c.args.due.now c.loop.due c.loop.taken.items inv.part
    (none_at_base c.loop.due c.loop.marks c.args.base (c.args.first + c.args.count) inv.wheel c.in-None.ensures)
