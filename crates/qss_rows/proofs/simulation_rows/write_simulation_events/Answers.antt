use Rattle.qss_rows.proofs.Common
use Common.{[], ◌++◌, ◌∙◌, ◌≡◌, Err, IsEndIn, IsWriting, Machine, Memory, refl, result_err, rules}
use Common.{RunEnd, Some, subst, sym, text_in}
use Rattle.qss_rows.proofs.Simulated.{some_holds}
use Rattle.qss_rows.proofs.WrittenLines.{text_in-append, stops_early, stops_sooner, begins, goes_on}
use Rattle.qss_rows.proofs.WrittenLines.{fails, halts, ends}
use Rattle.qss_rows.proofs.simulation_rows.write_simulation_events.Goals as goal

pub returns-in_err-write_last_event : goal.returns-in_err-write_last_event
returns-in_err-write_last_event g c =
    let given : c.from_residual.result ≡ Err c.in_err-write_last_event.field-0.0 = search rules in
    let present = g.S.Simulation.present c.args.sim.now in
    let to_come = g.S.Simulation.to_come c.args.sim.now in
    record {
      machine = refl;
      written =
          subst (λ r. IsWriting (λ k. g.O.Sink.written k) (λ k. g.O.Sink.faults k) (λ k. g.O.Sink.failed k) (result_err r) c.args.out.now c.write_last_event.new.out (text_in (present ++ to_come))) (sym given)
          (subst (IsWriting (λ k. g.O.Sink.written k) (λ k. g.O.Sink.faults k) (λ k. g.O.Sink.failed k) (Some c.in_err-write_last_event.field-0.0) c.args.out.now c.write_last_event.new.out) (sym (text_in-append present to_come))
          (stops_early (λ k. g.O.Sink.written k) (λ k. g.O.Sink.faults k) (λ k. g.O.Sink.failed k) c.in_err-write_last_event.field-0.0 c.args.out.now c.write_last_event.new.out (text_in present) (text_in to_come) c.in_err-write_last_event.ensures.written));
      stopped = λ f.
          stops_sooner (λ k. g.O.Sink.written k) [] present to_come c.args.out.now c.write_last_event.new.out
          (c.in_err-write_last_event.ensures.stopped (subst (λ r. result_err r ≡ Some Memory) given f));
      end = search rules;
    }

pub events-init : goal.events-init
events-init g c = record {
  machine = refl;
  goes_on = c.requires;
  way = begins (λ k. g.O.Sink.written k) (λ k. g.O.Sink.faults k) (λ k. g.O.Sink.failed k) c.args.out.now c.write_last_event.new.out (g.S.Simulation.present c.args.sim.now) (g.S.Simulation.to_come c.args.sim.now)
      c.in_ok-write_last_event.ensures.written;
  same_end = λ end h. h;
}

pub write_simulation_event-requires : goal.write_simulation_event-requires
write_simulation_event-requires g c = c.events.invariant.goes_on

pub returns-in_err-write_simulation_event : goal.returns-in_err-write_simulation_event
returns-in_err-write_simulation_event g c =
    let given : c.from_residual-in_err-write_simulation_event.result ≡ Err c.in_err-write_simulation_event.field-0.0 = search rules in
    let inv = c.events.invariant in
    let first_view = c.args.sim.now in
    let now = c.events.sim in
    let new = c.write_simulation_event.new.sim in
    let event = c.in_err-write_simulation_event.ensures in
    let lines = g.S.Simulation.present first_view ++ g.S.Simulation.to_come first_view in
    record {
      machine = event.machine ∙ inv.machine;
      written =
          subst (λ r. IsWriting (λ k. g.O.Sink.written k) (λ k. g.O.Sink.faults k) (λ k. g.O.Sink.failed k) (result_err r) c.args.out.now c.write_simulation_event.new.out (text_in lines)) (sym given)
          (fails (λ k. g.O.Sink.written k) (λ k. g.O.Sink.faults k) (λ k. g.O.Sink.failed k) c.args.out.now c.events.out c.write_simulation_event.new.out lines (g.S.Simulation.to_come now)
          (g.S.Simulation.present new) (g.S.Simulation.to_come new) inv.way event.lines c.in_err-write_simulation_event.field-0.0 event.written);
      stopped = λ f.
          halts (λ k. g.O.Sink.written k) (λ k. g.O.Sink.faults k) (λ k. g.O.Sink.failed k) c.args.out.now c.events.out c.write_simulation_event.new.out lines (g.S.Simulation.to_come now)
          (g.S.Simulation.present new) (g.S.Simulation.to_come new) inv.way event.lines (event.stopped (subst (λ r. result_err r ≡ Some Memory) given f));
      end = search rules;
    }

pub events-preserved : goal.events-preserved
events-preserved g c =
    let inv = c.events.invariant in
    let first_view = c.args.sim.now in
    let now = c.events.sim in
    let new = c.write_simulation_event.new.sim in
    let event = c.in_ok-write_simulation_event.ensures in
    record {
      machine = event.machine ∙ inv.machine;
      goes_on = (event.unended c.in-None.is).0;
      way = goes_on (λ k. g.O.Sink.written k) (λ k. g.O.Sink.faults k) (λ k. g.O.Sink.failed k) c.args.out.now c.events.out c.write_simulation_event.new.out (g.S.Simulation.present first_view ++ g.S.Simulation.to_come first_view)
          (g.S.Simulation.to_come now) (g.S.Simulation.present new) (g.S.Simulation.to_come new) inv.way event.lines event.written;
      same_end = λ end h. inv.same_end end (event.same_end end c.in-None.is h);
    }

pub events-smaller : goal.events-smaller
events-smaller g c = (c.in_ok-write_simulation_event.ensures.unended c.in-None.is).1

pub returns-in-Some : goal.returns-in-Some
returns-in-Some g c =
    let inv = c.events.invariant in
    let first_view = c.args.sim.now in
    let now = c.events.sim in
    let new = c.write_simulation_event.new.sim in
    let event = c.in_ok-write_simulation_event.ensures in
    let last = some_holds (λ (end : RunEnd). (g.S.Simulation.to_come new ≡ []) × (g.S.Simulation.ends now end) × IsEndIn (g.S.Simulation.machine now) end)
    c.in_ok-write_simulation_event.field-0 c.in-Some.end c.in-Some.is event.ended in
    record {
      machine = event.machine ∙ inv.machine;
      written = ends (λ k. g.O.Sink.written k) (λ k. g.O.Sink.faults k) (λ k. g.O.Sink.failed k) c.args.out.now c.events.out c.write_simulation_event.new.out (g.S.Simulation.present first_view ++ g.S.Simulation.to_come first_view)
          (g.S.Simulation.to_come now) (g.S.Simulation.present new) (g.S.Simulation.to_come new) inv.way event.lines last.0 event.written;
      stopped = λ f. absurd (cc f);
      end = (inv.same_end c.in-Some.end last.1, subst (λ (m : Machine). IsEndIn m c.in-Some.end) inv.machine last.2);
    }
