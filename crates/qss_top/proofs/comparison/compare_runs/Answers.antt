use Rattle.qss_top.proofs.Common.{no_certificate, origin_in, refl}
use Rattle.qss_answers.specs.Comparisons.{IsUnusableCertificate}
use Rattle.qss_top.proofs.Comparing.{comparison_answers, stop_writes}
use Rattle.qss_top.proofs.FileSteps.{answer_step, map_step}
use Rattle.qss_top.proofs.comparison.compare_runs.Goals as goal

pub returns-in-Ok : goal.returns-in-Ok
returns-in-Ok g c = map_step (comparison_answers (origin_in c.args.origins.one)
    (origin_in c.args.origins.two) c.args.text.m.now c.args.text.bytes.now c.in-Ok.c c.in-Ok.ensures.basis)
    c.with_first.ensures

pub returns-in-Err : goal.returns-in-Err
returns-in-Err g c = answer_step (λ a so. no_certificate c.in-Err.stop refl so.0 so.1)
    (stop_writes c.args.text.m.now (IsUnusableCertificate c.args.text.m.now c.args.text.bytes.now)
    c.in-Err.stop c.in-Err.ensures.stopped c.stopped.ensures)
