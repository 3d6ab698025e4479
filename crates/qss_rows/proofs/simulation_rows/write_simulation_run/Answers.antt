use Rattle.qss_rows.proofs.Common
use Common.{[], ℕ, ◌++◌, ◌≡◌, append-nil, Appends, Err, header, IsWriting, List, Memory, None, refl}
use Common.{result_err, rules, Some, subst, sym, text_in}
use Rattle.qss_rows.proofs.WrittenLines.{stops_early, writes_later, stops_later}
use Rattle.qss_rows.proofs.simulation_rows.write_simulation_run.Goals as goal

pub returns-in_err-write_simulation_bytes-clause-written : goal.returns-in_err-write_simulation_bytes-clause-written
returns-in_err-write_simulation_bytes-clause-written g c =
    let given : c.from_residual.result ≡ Err c.in_err-write_simulation_bytes.field-0.0 = search rules in
    let text = text_in (g.S.Simulation.present c.args.sim.now ++ g.S.Simulation.to_come c.args.sim.now) in
    subst (λ r. IsWriting (λ k. g.O.Sink.written k) (λ k. g.O.Sink.faults k) (λ k. g.O.Sink.failed k) (result_err r) c.args.out.now c.write_simulation_bytes.new.out (header ++ text)) (sym given)
    (stops_early (λ k. g.O.Sink.written k) (λ k. g.O.Sink.faults k) (λ k. g.O.Sink.failed k) c.in_err-write_simulation_bytes.field-0.0 c.args.out.now c.write_simulation_bytes.new.out header text
    (subst (λ (bytes : List ℕ). IsWriting (λ k. g.O.Sink.written k) (λ k. g.O.Sink.faults k) (λ k. g.O.Sink.failed k) (Some c.in_err-write_simulation_bytes.field-0.0) c.args.out.now c.write_simulation_bytes.new.out bytes) c.header.ensures c.in_err-write_simulation_bytes.ensures.written))

pub returns-clause-written : goal.returns-clause-written
returns-clause-written g c =
    let text = text_in (g.S.Simulation.present c.args.sim.now ++ g.S.Simulation.to_come c.args.sim.now) in
    let whole = subst (λ (bytes : List ℕ). IsWriting (λ k. g.O.Sink.written k) (λ k. g.O.Sink.faults k) (λ k. g.O.Sink.failed k) None c.args.out.now c.write_simulation_bytes.new.out bytes) c.header.ensures c.in_ok-write_simulation_bytes.ensures.written in
    writes_later (λ k. g.O.Sink.written k) (λ k. g.O.Sink.faults k) (λ k. g.O.Sink.failed k) (result_err c.write_simulation_events.result) c.args.out.now c.write_simulation_bytes.new.out c.write_simulation_events.new.out header text
    (whole.whole refl) (whole.calm (λ f. absurd (cc))) c.write_simulation_events.ensures.written

pub returns-in_err-write_simulation_bytes-clause-stopped : goal.returns-in_err-write_simulation_bytes-clause-stopped
returns-in_err-write_simulation_bytes-clause-stopped g c f =
    let given : c.from_residual.result ≡ Err c.in_err-write_simulation_bytes.field-0.0 = search rules in
    absurd (c.in_err-write_simulation_bytes.ensures.no_memory (subst (λ r. result_err r ≡ Some Memory) given f))

pub returns-clause-stopped : goal.returns-clause-stopped
returns-clause-stopped g c f =
    let whole = subst (λ (bytes : List ℕ). IsWriting (λ k. g.O.Sink.written k) (λ k. g.O.Sink.faults k) (λ k. g.O.Sink.failed k) None c.args.out.now c.write_simulation_bytes.new.out bytes) c.header.ensures c.in_ok-write_simulation_bytes.ensures.written in
    stops_later (λ k. g.O.Sink.written k) header [] (g.S.Simulation.present c.args.sim.now ++ g.S.Simulation.to_come c.args.sim.now) c.args.out.now c.write_simulation_bytes.new.out c.write_simulation_events.new.out
    (subst (Appends (g.O.Sink.written c.args.out.now) (g.O.Sink.written c.write_simulation_bytes.new.out)) (sym (append-nil header)) (whole.whole refl)) (c.write_simulation_events.ensures.stopped f)
