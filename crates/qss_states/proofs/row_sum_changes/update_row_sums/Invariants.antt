use Rattle.qss_states.proofs.Common
use Common.{◌≡◌, AreRisingBelow, IsSumAfterLevelChange, IsWritten, length, pos, state_count, take}
use Rattle.qss_states.proofs.row_sum_changes.update_row_sums.Given as goal

-- the sums of the rows so far
abbrev pub invariant-loop-place : goal.invariant-loop-place
invariant-loop-place l = record {
  written : IsWritten (pos 0) (IsSumAfterLevelChange l.kind l.at.machine.now l.change.state l.change.old l.change.new l.at.discretes.now l.fn.sums) (take l.place l.rows) l.fn.sums l.sums;
  as_many : length l.sums ≡ state_count l.at.machine.now;
  known : AreRisingBelow (state_count l.at.machine.now) l.rows;
}
