use Rattle.qss_rows.proofs.WrittenLines.{stops_first}
use Rattle.qss_rows.proofs.simulation_rows.write_last_event.Goals as goal

pub returns-in-Err-clause-stopped : goal.returns-in-Err-clause-stopped
returns-in-Err-clause-stopped g c e =
    let row = c.in-Err.ensures.memory_was_needed in
    stops_first (λ k. g.O.Sink.written k) (g.S.Simulation.present c.args.sim.now) row.0 c.args.out.now row.1
