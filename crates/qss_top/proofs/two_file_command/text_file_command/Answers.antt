use Rattle.qss_top.proofs.CommandSteps.{long_second}
use Rattle.qss_top.proofs.FileSteps.{file_step, map_step, no_file_step}
use Rattle.qss_top.proofs.two_file_command.text_file_command.Goals as goal

pub returns-in-Ok : goal.returns-in-Ok
returns-in-Ok g c =
    file_step c.in-Ok.ensures (map_step (λ contents a h. (c.requires, h))
    (rw c.deref.ensures.value at c.answer_second_file.ensures))

pub returns-in-Err : goal.returns-in-Err
returns-in-Err g c = no_file_step (long_second c.args.task c.args.m.now c.requires)
    (rw c.kind_of.ensures at c.in-Err.ensures)
