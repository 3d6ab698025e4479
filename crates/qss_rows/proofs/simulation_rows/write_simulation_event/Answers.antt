use Rattle.qss_rows.proofs.Common
use Common.{◌≡◌, Err, IsWriting, Memory, result_err, rules, Some, subst, sym, text_in}
use Rattle.qss_rows.proofs.simulation_rows.write_simulation_event.Goals as goal

pub returns-in_err-write_last_event : goal.returns-in_err-write_last_event
returns-in_err-write_last_event g c =
    let given : c.from_residual.result ≡ Err c.in_err-write_last_event.field-0.0 = search rules in
    let next = c.next_event-end in
    record {
      machine = next.ensures.machine;
      lines = next.ensures.lines;
      unended = search rules;
      same_end = search rules;
      ended = search rules;
      written = subst (λ r. IsWriting (λ k. g.O.Sink.written k) (λ k. g.O.Sink.faults k) (λ k. g.O.Sink.failed k) (result_err r) c.args.out.now c.write_last_event.new.out (text_in (g.S.Simulation.present next.new.self))) (sym given)
          c.in_err-write_last_event.ensures.written;
      stopped = λ e. c.in_err-write_last_event.ensures.stopped (subst (λ r. result_err r ≡ Some Memory) given e);
    }

pub returns : goal.returns
returns g c =
    let next = c.next_event-end in
    record {
      machine = next.ensures.machine;
      lines = next.ensures.lines;
      unended = next.ensures.unended;
      same_end = next.ensures.same_end;
      ended = next.ensures.ended;
      written = c.in_ok-write_last_event.ensures.written;
      stopped = λ e. absurd (cc e);
    }
