use Rattle.qss_run.proofs.Common.{◌∙◌, ◌≡◌, refl}
use Rattle.qss_events.proofs.FromStart.{course_known}
use Rattle.qss_events.proofs.RuledRuns.{plays, plays_nothing}
use Rattle.qss_run.proofs.ruled_run.write_run_by.Goals as goal

pub invariant_of-run : goal.invariant_of-run
invariant_of-run g c =
    let same : c.in-Ok.sim.quantizer.name ≡ c.args.quantizer.name = rw c.in-Ok.ensures.rule refl in
    record { named = same ∙ c.requires.named; known = course_known c.args.rule c.args.m c.in-Ok.sim.run c.in-Ok.ensures.start }

pub returns-in-Ok : goal.returns-in-Ok
returns-in-Ok g c =
    plays (λ k. g.O.Sink.written k) (λ k. g.O.Sink.faults k) (λ k. g.O.Sink.failed k) c.args.rule c.args.m c.in-Ok.sim.run c.new-filter.result c.args.only c.write_simulation.result c.args.out.now c.write_simulation.new.out
    c.in-Ok.ensures.start c.new-filter.ensures c.write_simulation.ensures

pub returns-in-Err : goal.returns-in-Err
returns-in-Err g c = plays_nothing (λ k. g.O.Sink.written k) (λ k. g.O.Sink.faults k) (λ k. g.O.Sink.failed k) c.args.only c.args.rule c.args.m c.args.out.now
