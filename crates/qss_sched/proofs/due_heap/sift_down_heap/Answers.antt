-- A step down keeps the heap in order but at the hole.
use Rattle.qss_sched.proofs.Holes.{sunk, sunk_above}
use Rattle.qss_sched.proofs.due_heap.sift_down_heap.Goals as goal

pub loop-hole-preserved : goal.loop-hole-preserved
loop-hole-preserved c =
    let hole = c.loop-hole.invariant.hole in
    let below = c.first_heap_child-below.ensures in
    record {
      hole = rw (c.hold_in_heap.ensures.ranks, c.hold_in_heap.ensures.positions) (sunk _ _ _ _ _ _ _ hole below c.if-rank-lower.false);
      above = rw c.hold_in_heap.ensures.ranks (sunk_above _ _ _ _ _ _ _ hole below c.if-rank-lower.false);
    }
