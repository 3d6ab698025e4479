use Rattle.qss_rows.proofs.Common.{◌++◌, ◌≡◌, RunEnd}
use Rattle.qss_rows.proofs.WrittenLines.{IsUnderWay}
use Rattle.qss_rows.proofs.simulation_rows.write_simulation_events.Given as goal

-- the lines of the run so far are written, and the others are ahead
abbrev pub invariant-events : goal.invariant-events
invariant-events g l = record {
  machine : g.S.Simulation.machine l.sim ≡ g.S.Simulation.machine l.fn.sim;
  goes_on : g.S.Simulation.goes_on l.sim;
  way : IsUnderWay (λ k. g.O.Sink.written k) (λ k. g.O.Sink.faults k) (λ k. g.O.Sink.failed k) (g.S.Simulation.present l.fn.sim ++ g.S.Simulation.to_come l.fn.sim) (g.S.Simulation.to_come l.sim) l.fn.out l.out;
  same_end : (end : RunEnd) → g.S.Simulation.ends l.sim end → g.S.Simulation.ends l.fn.sim end;
}

abbrev pub decreases-events : goal.decreases-events
decreases-events g l = g.S.Simulation.ticks_left l.sim
