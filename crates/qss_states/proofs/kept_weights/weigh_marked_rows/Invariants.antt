use Rattle.qss_states.proofs.Common.{IsWeighed, IsWritten, pos, take}
use Rattle.qss_states.proofs.kept_weights.weigh_marked_rows.Given as goal

-- the absolute row sums of the rows so far
abbrev pub invariant-loop-row : goal.invariant-loop-row
invariant-loop-row l =
    IsWritten (pos 0) (IsWeighed l.at.machine.now l.at.levels.now l.handled.discretes.now) (take l.row-index l.rows) l.fn.weights l.weights
