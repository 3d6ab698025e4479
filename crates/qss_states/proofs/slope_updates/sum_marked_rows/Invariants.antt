use Rattle.qss_states.proofs.Common.{◌≡◌, IsSlopeAt, IsWritten, length, pos, state_count, take}
use Rattle.qss_states.proofs.slope_updates.sum_marked_rows.Given as goal

-- the rows so far
abbrev pub invariant-loop-row : goal.invariant-loop-row
invariant-loop-row l = record {
  written :
      IsWritten (pos 0) (IsSlopeAt l.at.machine.now l.at.levels.now l.handled.discretes.now) (take l.row-index l.rows) l.fn.slopes l.slopes;
  as_many : length l.slopes ≡ state_count l.at.machine.now;
}
