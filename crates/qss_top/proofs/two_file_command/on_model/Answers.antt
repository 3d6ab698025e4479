use Rattle.qss_top.proofs.Common.{inl, inr, IsRefused, refl}
use Rattle.qss_top.proofs.FileSteps.{answer_step, map_step}
use Rattle.qss_top.proofs.SourceSteps.{refused_step}
use Rattle.qss_top.proofs.two_file_command.on_model.Goals as goal

pub returns-in-Ok : goal.returns-in-Ok
returns-in-Ok g c =
    let means = rw c.share_of.ensures at c.in-Ok.ensures.machine in
    map_step (λ contents a h. inr (c.in-Ok.m, means, h)) c.in_scope.ensures

pub returns-in-Err : goal.returns-in-Err
returns-in-Err g c = answer_step (λ a h. inl (refl, h))
    (refused_step IsRefused c.args.bytes.now (λ r is. is) c.requires c.in-Err.ensures.refused)
