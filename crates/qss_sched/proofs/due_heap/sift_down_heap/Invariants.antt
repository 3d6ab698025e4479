-- The rank is not less than the one above the hole.
use Rattle.qss_sched.proofs.Common.{◌-◌, IsAboveOrdered, length, slice_index, slice_set}
use Rattle.qss_sched.proofs.Holes.{IsHole}
use Rattle.qss_sched.proofs.due_heap.sift_down_heap.Given as goal

abbrev pub invariant-loop-hole : goal.invariant-loop-hole
invariant-loop-hole l = record {
  hole : IsHole l.fn.ranks l.fn.positions l.ranks l.positions l.hole l.rank;
  above : IsAboveOrdered (slice_index (slice_set l.ranks l.hole l.rank)) l.hole;
}

abbrev pub decreases-loop-hole : goal.decreases-loop-hole
decreases-loop-hole l = length l.fn.ranks - l.hole
