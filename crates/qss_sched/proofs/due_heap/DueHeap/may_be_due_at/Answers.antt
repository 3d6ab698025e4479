use Rattle.qss_sched.proofs.Common.{◌-◌, ◌^◌, arith, eqb-false}
use Rattle.qss_sched.proofs.Least.{none_at_other}
use Rattle.qss_sched.proofs.due_heap.DueHeap.may_be_due_at.Goals as goal

pub returns : goal.returns
returns c =
    let h = c.self.inside in
    rw (← c.self.view_is)
    (λ other. none_at_other h.due.items (2 ^ 64 - 1) h.first c.args.tick c.self.invariant.next (rw (← c.self.view_is) at c.requires) (omega (arith, c.ranges.tick.fits))
    (eqb-false h.first c.args.tick other))
