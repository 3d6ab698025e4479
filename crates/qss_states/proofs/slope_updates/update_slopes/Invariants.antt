use Rattle.qss_states.proofs.Common.{◌≡◌, HaveSlopesUpdated, IsCounted, length, state_count, take}
use Rattle.qss_states.proofs.slope_updates.update_slopes.Given as goal

-- the states so far
abbrev pub invariant-loop-j : goal.invariant-loop-j
invariant-loop-j g l = record {
  resloped : HaveSlopesUpdated l.at.event.machine.now l.at.event.tick l.at.event.levels.now l.at.slopes.now (take l.j-index l.states) (record { lines = l.fn.lines; dues = l.fn.agenda }) (record { lines = l.lines; dues = l.agenda });
  line_count : length l.lines ≡ state_count l.at.event.machine.now;
  counted : IsCounted (state_count l.at.event.machine.now) l.at.event.levels.now l.at.slopes.now l.fn.lines l.lines l.fn.steps l.steps;
}
