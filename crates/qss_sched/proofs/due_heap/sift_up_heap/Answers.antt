-- A step up keeps the heap in order but at the hole.
use Rattle.qss_sched.proofs.Holes.{risen, risen_below}
use Rattle.qss_sched.proofs.due_heap.sift_up_heap.Goals as goal

pub loop-hole-preserved : goal.loop-hole-preserved
loop-hole-preserved c =
    let hole = c.loop-hole.invariant.hole in
    let below = c.loop-hole.invariant.below in
    record {
      hole = rw (c.hold_in_heap.ensures.ranks, c.hold_in_heap.ensures.positions) (risen _ _ _ _ _ _ hole below c.loop-hole-test.true c.if-rank-ranks.true);
      below = rw c.hold_in_heap.ensures.ranks (risen_below _ _ _ _ _ _ hole below c.loop-hole-test.true c.if-rank-ranks.true);
    }
