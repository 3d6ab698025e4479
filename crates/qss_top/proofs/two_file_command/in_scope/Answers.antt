use Rattle.qss_top.proofs.Common.{[], refl, rejected, ScopeAnswers}
use Rattle.qss_top.proofs.FileSteps.{answer_step}
use Rattle.qss_top.proofs.FrameFacts.{rejection_writes}
use Rattle.qss_answers.specs.declared.refusal.Refusal.TheVariants as reasons
use Rattle.qss_top.proofs.two_file_command.in_scope.Goals as goal

pub text_file_command-requires : goal.text_file_command-requires
text_file_command-requires g c = c.in-Ok.ensures.inside.0 refl

pub returns-in-Err : goal.returns-in-Err
returns-in-Err g c =
    let why = c.in-Err.why in
    answer_step {Is = ScopeAnswers c.args.task c.args.m.now []} (λ a h. h)
    (rejection_writes (rejected (reasons.Outside why)) refl (why, c.in-Err.ensures.outside, refl)
    refl)
