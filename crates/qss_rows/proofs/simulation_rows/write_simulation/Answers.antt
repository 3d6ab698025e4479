use Rattle.qss_rows.proofs.Common
use Common.{◌++◌, ◌∙◌, ap, IsEndIn, IsResultOf, Machine, Some, subst, sym, WriteStop}
use Rattle.qss_rows.proofs.Simulated.{written_whole, written_faulty, written_short}
use Rattle.qss_rows.proofs.simulation_rows.write_simulation.Goals as goal

pub simulation_result-requires : goal.simulation_result-requires
simulation_result-requires g c = subst (λ (m : Machine). IsEndIn m c.in-Ok.end) (sym (c.machine.ensures ∙ c.in-Ok.ensures.machine)) c.in-Ok.ensures.end.1

pub returns-in-Ok : goal.returns-in-Ok
returns-in-Ok g c =
    let first_view = c.args.sim.now in
    written_whole (λ k. g.O.Sink.written k) (λ k. g.O.Sink.faults k) (λ k. g.O.Sink.failed k) (g.S.Simulation.machine first_view) (λ e. g.S.Simulation.ends first_view e) (g.S.Simulation.present first_view ++ g.S.Simulation.to_come first_view)
    c.args.out.now c.write_simulation_run.new.out c.in-Ok.end c.simulation_result.result c.in-Ok.ensures.end.0
    (subst (λ (m : Machine). IsResultOf m c.in-Ok.end c.simulation_result.result) (c.machine.ensures ∙ c.in-Ok.ensures.machine) c.simulation_result.ensures)
    c.in-Ok.ensures.written

pub returns-in-Err-Fault : goal.returns-in-Err-Fault
returns-in-Err-Fault g c =
    let first_view = c.args.sim.now in
    written_faulty (λ k. g.O.Sink.written k) (λ k. g.O.Sink.faults k) (λ k. g.O.Sink.failed k) (g.S.Simulation.machine first_view) (λ e. g.S.Simulation.ends first_view e) (g.S.Simulation.present first_view ++ g.S.Simulation.to_come first_view)
    c.args.out.now c.write_simulation_run.new.out c.in-Err-Fault.field-0 c.in-Err-Fault.field-0-is c.in-Err-Fault.ensures.written

pub returns-in-Err-Memory : goal.returns-in-Err-Memory
returns-in-Err-Memory g c =
    let first_view = c.args.sim.now in
    written_short (λ k. g.O.Sink.written k) (λ k. g.O.Sink.faults k) (λ k. g.O.Sink.failed k) (g.S.Simulation.machine first_view) (λ e. g.S.Simulation.ends first_view e) (g.S.Simulation.present first_view ++ g.S.Simulation.to_come first_view)
    c.args.out.now c.write_simulation_run.new.out c.in-Err-Memory.field-0 c.in-Err-Memory.field-0-is c.in-Err-Memory.ensures.written
    (c.in-Err-Memory.ensures.stopped (ap (λ (s : WriteStop). Some s) c.in-Err-Memory.field-0-is))
