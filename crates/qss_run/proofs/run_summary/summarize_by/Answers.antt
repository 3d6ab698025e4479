use Rattle.qss_run.proofs.Common.{◌∙◌, ◌≡◌, refl}
use Rattle.qss_events.proofs.FromStart.{course_own}
use Rattle.qss_run.proofs.Counting.{tally_own}
use Rattle.qss_run.proofs.run_summary.summarize_by.Goals as goal

pub summarize_run-requires : goal.summarize_run-requires
summarize_run-requires g c =
    let same : c.in-Ok.sim.quantizer.name ≡ c.new-quantizer.result.name = rw c.in-Ok.ensures.rule refl in
    record { start = course_own c.args.m c.in-Ok.sim.run c.in-Ok.ensures.start; named = same ∙ c.new-quantizer.ensures.name }

pub returns-in-Ok : goal.returns-in-Ok
returns-in-Ok g c = tally_own c.args.m c.in-Ok.sim.run c.summarize_run.result c.in-Ok.ensures.start c.summarize_run.ensures
