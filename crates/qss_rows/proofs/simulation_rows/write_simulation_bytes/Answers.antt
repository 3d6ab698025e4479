use Rattle.qss_rows.proofs.Common.{refl}
use Rattle.qss_rows.proofs.WrittenLines.{writes_all}
use Rattle.qss_rows.proofs.simulation_rows.write_simulation_bytes.Goals as goal

pub returns-in-Ok-clause-written : goal.returns-in-Ok-clause-written
returns-in-Ok-clause-written g c =
    writes_all (λ k. g.O.Sink.written k) (λ k. g.O.Sink.faults k) (λ k. g.O.Sink.failed k) c.args.out.now c.write_all.new.sink c.args.bytes.now c.in-Ok.ensures.whole c.in-Ok.ensures.no_new_fault

pub returns-in-Err-Fault-clause-written : goal.returns-in-Err-Fault-clause-written
returns-in-Err-Fault-clause-written g c =
    record {
      whole = λ e. absurd (cc e);
      prefix = c.in-Err-Fault.ensures.prefix;
      calm = λ e. absurd (e refl);
      last = λ e. c.in-Err-Fault.ensures.fault_was_last;
    }
