use Rattle.qss_states.proofs.Common.{AreReaderSums, IsWeighed, take}
use Rattle.qss_states.proofs.kept_weights.weigh_marked_readers.Given as goal

-- the absolute row sums of the rows that read one of the variables so far
abbrev pub invariant-loop-var : goal.invariant-loop-var
invariant-loop-var l =
    AreReaderSums (IsWeighed l.at.machine.now l.at.levels.now l.handled.discretes.now) l.at.machine.now (take l.var-index l.handled.assigned.now) l.fn.weights
    l.weights
