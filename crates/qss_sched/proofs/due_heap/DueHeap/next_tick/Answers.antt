use Rattle.qss_sched.proofs.Common.{◌-◌, ◌^◌, arith}
use Rattle.qss_sched.proofs.Least.{next_up_to}
use Rattle.qss_sched.proofs.due_heap.DueHeap.next_tick.Goals as goal

pub returns : goal.returns
returns c = let h = c.self.inside in rw (← c.self.view_is) (next_up_to h.due.items (2 ^ 64 - 1) h.first c.args.last c.min.result c.self.invariant.next (omega (arith, c.ranges.last.fits)) c.min.ensures)
