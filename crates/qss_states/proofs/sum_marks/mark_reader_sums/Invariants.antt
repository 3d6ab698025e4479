use Rattle.qss_states.proofs.Common.{AreMarked, listed_rows, take}
use Rattle.qss_states.proofs.sum_marks.mark_reader_sums.Given as goal

-- the rows that are listed for the variables so far
abbrev pub invariant-loop-var : goal.invariant-loop-var
invariant-loop-var l =
    AreMarked (listed_rows l.uses.0 (take l.var-index l.variables)) l.fn.sums l.sums
