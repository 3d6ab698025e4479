use Rattle.qss_states.proofs.Common.{AreMarked, take}
use Rattle.qss_states.proofs.sum_marks.mark_sums.Given as goal

-- the rows so far
abbrev pub invariant-loop-row : goal.invariant-loop-row
invariant-loop-row l = AreMarked (take l.row-index l.rows) l.fn.sums l.sums
