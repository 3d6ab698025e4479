use Rattle.qss_devs.proofs.Common.{◌∙◌, ◌≡◌, ap, Floor, Quantizer, RunView, view_of}
use Rattle.qss_events.proofs.FromStart.{course_known}
use Rattle.qss_events.proofs.RuledRuns.{plays, plays_nothing}
use Rattle.qss_devs.proofs.coupled_run.write_devs_run.Goals as goal

pub new-requires : goal.new-requires
new-requires g c = (Floor, c.new-quantizer.ensures.name)

pub invariant_of-run : goal.invariant_of-run
invariant_of-run g c =
    let model = c.in-Ok.model in
    let course : RunView = view_of model.machine.value model.tick model.store model.end in
    let same : model.quantizer.value.name ≡ c.new-quantizer.result.name = ap (λ (q : Quantizer _ _). q.name) c.in-Ok.ensures.rule in
    record {
      named = same ∙ c.new-quantizer.ensures.name;
      known = course_known Floor c.args.m course c.in-Ok.ensures.start;
    }

pub write_simulation-requires : goal.write_simulation-requires
write_simulation-requires g c = ap (λ (s : RunView). s.end) c.in-Ok.ensures.start

pub returns-in-Ok : goal.returns-in-Ok
returns-in-Ok g c =
    let model = c.in-Ok.model in
    let course : RunView = view_of model.machine.value model.tick model.store model.end in
    let played = plays (λ k. g.O.Sink.written k) (λ k. g.O.Sink.faults k) (λ k. g.O.Sink.failed k) Floor c.args.m course c.new-filter.result c.args.only c.write_simulation.result c.args.out.now c.write_simulation.new.out
    c.in-Ok.ensures.start c.new-filter.ensures c.write_simulation.ensures in
    record { end = played.end; whole = played.whole; prefix = played.prefix; out_of_memory_prefix = played.short; no_new_fault = played.calm; fault_was_last = played.last }

pub returns-in-Err : goal.returns-in-Err
returns-in-Err g c =
    let played = plays_nothing (λ k. g.O.Sink.written k) (λ k. g.O.Sink.faults k) (λ k. g.O.Sink.failed k) c.args.only Floor c.args.m c.args.out.now in
    record { end = played.end; whole = played.whole; prefix = played.prefix; out_of_memory_prefix = played.short; no_new_fault = played.calm; fault_was_last = played.last }
