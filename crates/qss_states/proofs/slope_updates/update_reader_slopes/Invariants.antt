use Rattle.qss_states.proofs.Common
use Common.{◌≡◌, flat_map, HaveSlopesUpdated, IsCounted, length, reading_rows, state_count, take}
use Rattle.qss_states.proofs.slope_updates.update_reader_slopes.Given as goal

-- the variables so far
abbrev pub invariant-loop-var : goal.invariant-loop-var
invariant-loop-var g l = record {
  resloped : HaveSlopesUpdated l.at.event.machine.now l.at.event.tick l.at.event.levels.now l.at.slopes.now (flat_map (reading_rows l.at.event.machine.now) (take l.var-index l.variables)) (record { lines = l.fn.lines; dues = l.fn.agenda }) (record { lines = l.lines; dues = l.agenda });
  line_count : length l.lines ≡ state_count l.at.event.machine.now;
  counted : IsCounted (state_count l.at.event.machine.now) l.at.event.levels.now l.at.slopes.now l.fn.lines l.lines l.fn.steps l.steps;
}
