use Rattle.qss_rows.proofs.Common.{◌≡◌, take, text_in}
use Rattle.qss_rows.specs.HeldLines.{lines_in}
use Rattle.qss_rows.proofs.simulation_rows.make_simulation_lines.Given as goal

-- the lines so far are held
abbrev pub invariant-loop-row : goal.invariant-loop-row
invariant-loop-row g l = lines_in l.lines ≡ text_in (take l.row (g.S.Simulation.present l.sim))
