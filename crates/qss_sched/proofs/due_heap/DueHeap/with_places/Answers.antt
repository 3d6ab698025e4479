-- At the start each rank is at its place's number.
use Rattle.qss_sched.proofs.Common.{◌-◌, ◌^◌, arith, common_steps}
use Rattle.qss_sched.proofs.Least.{next_of_none}
use Rattle.qss_sched.proofs.DueHeaps.{heap_at_start}
use Rattle.qss_sched.proofs.due_heap.DueHeap.with_places.Goals as goal

pub invariant_of-result : goal.invariant_of-result
invariant_of-result c = record {
  heap = heap_at_start c.in_ok-due.due.items c.in_ok-ranks.ranks.items c.in_ok-positions.positions.items c.args.n
      c.ranges.n.fits (grind (arith, common_steps)) (grind (arith, common_steps)) (grind (arith, common_steps))
      c.in_ok-due.ensures.none c.in_ok-ranks.ensures.each c.in_ok-positions.ensures.each;
  next = next_of_none c.in_ok-due.due.items (2 ^ 64 - 1) c.in_ok-due.ensures.none;
}
