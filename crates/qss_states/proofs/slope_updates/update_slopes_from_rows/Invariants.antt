use Rattle.qss_states.proofs.Common.{◌≡◌, IsWritten, length, pos, slope_at, state_count, take}
use Rattle.qss_states.proofs.slope_updates.update_slopes_from_rows.Given as goal

-- the rows so far
abbrev pub invariant-loop-row : goal.invariant-loop-row
invariant-loop-row l = record {
  written : IsWritten (pos 0) (λ j slope. slope ≡ slope_at l.at.machine.now j l.at.levels.now l.handled.discretes.now) (take l.row-index l.rows) l.fn.slopes l.slopes;
  as_many : length l.slopes ≡ state_count l.at.machine.now;
}
