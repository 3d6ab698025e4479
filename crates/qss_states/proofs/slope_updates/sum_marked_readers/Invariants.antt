use Rattle.qss_states.proofs.Common.{◌≡◌, AreReaderSums, IsSlopeAt, length, state_count, take}
use Rattle.qss_states.proofs.slope_updates.sum_marked_readers.Given as goal

-- the variables so far
abbrev pub invariant-loop-var : goal.invariant-loop-var
invariant-loop-var l = record {
  written :
      AreReaderSums (IsSlopeAt l.at.machine.now l.at.levels.now l.handled.discretes.now) l.at.machine.now (take l.var-index l.handled.assigned.now) l.fn.slopes
      l.slopes;
  as_many : length l.slopes ≡ state_count l.at.machine.now;
}
