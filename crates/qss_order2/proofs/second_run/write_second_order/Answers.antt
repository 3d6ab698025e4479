use Rattle.qss_order2.proofs.Common.{◌∙◌, ◌≡◌, IsRuled2, IsStarted, refl, subst}
use Rattle.qss_order2.proofs.WrittenRuns.{known_ahead, plays, plays_nothing}
use Rattle.qss_order2.proofs.second_run.write_second_order.Goals as goal

pub invariant_of-run : goal.invariant_of-run
invariant_of-run g c =
    let near = c.new-rule.ensures.nearest in
    let started = subst (λ n. IsStarted (IsRuled2 n) c.args.m c.in-Ok.sim.run)
    near c.in-Ok.ensures.start in
    let kept : c.in-Ok.sim.rule.nearest ≡ c.new-rule.result.nearest =
    rw c.in-Ok.ensures.rule refl in
    record { nearest = kept ∙ near; known = known_ahead c.args.m c.in-Ok.sim.run started }

pub returns-in-Ok : goal.returns-in-Ok
returns-in-Ok g c =
    let started = subst (λ n. IsStarted (IsRuled2 n) c.args.m c.in-Ok.sim.run)
    c.new-rule.ensures.nearest c.in-Ok.ensures.start in
    let played = plays c.args.m c.in-Ok.sim.run started (λ k. g.O.Sink.written k)
    (λ k. g.O.Sink.faults k) (λ k. g.O.Sink.failed k) c.write_simulation.result c.args.out.now
    c.write_simulation.new.out c.write_simulation.ensures in
    record {
      end = played.end;
      whole = played.whole;
      prefix = played.prefix;
      out_of_memory_prefix =
          played.short;
      no_new_fault = played.calm;
      fault_was_last = played.last;
    }

pub returns-in-Err : goal.returns-in-Err
returns-in-Err g c =
    let played = plays_nothing (λ k. g.O.Sink.written k) (λ k. g.O.Sink.faults k)
    (λ k. g.O.Sink.failed k) c.args.m c.args.out.now in
    record {
      end = played.end;
      whole = played.whole;
      prefix = played.prefix;
      out_of_memory_prefix =
          played.short;
      no_new_fault = played.calm;
      fault_was_last = played.last;
    }
