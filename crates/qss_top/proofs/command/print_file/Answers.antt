use Rattle.qss_top.proofs.Common.{inl, IsParseRefusal}
use Rattle.qss_top.proofs.FileSteps.{answer_step, file_step, no_file_step}
use Rattle.qss_top.proofs.Sources.{long_for}
use Rattle.qss_top.proofs.command.print_file.Goals as goal

pub returns-in-Ok : goal.returns-in-Ok
returns-in-Ok g c = file_step c.in-Ok.ensures
    (answer_step (λ a h. h) (rw c.deref.ensures.value at c.print_source.ensures))

pub returns-in-Err : goal.returns-in-Err
returns-in-Err g c =
    no_file_step (λ bytes long. inl (long_for IsParseRefusal bytes long)) c.in-Err.ensures
