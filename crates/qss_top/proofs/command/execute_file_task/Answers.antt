use Rattle.qss_top.proofs.CommandSteps.{file_of_task, long_model, of_source}
use Rattle.qss_top.proofs.FileSteps.{answer_step, file_step, no_file_step}
use Rattle.qss_top.proofs.command.execute_file_task.Goals as goal

pub returns-in-Ok : goal.returns-in-Ok
returns-in-Ok g c = rw (file_of_task c.args.task c.args.model.now) (file_step c.in-Ok.ensures
    (answer_step (of_source c.args.task c.args.model.now c.in-Ok.bytes.items)
    (rw c.deref.ensures.value at c.answer_task.ensures)))

pub returns-in-Err : goal.returns-in-Err
returns-in-Err g c = rw (file_of_task c.args.task c.args.model.now)
    (no_file_step (long_model c.args.task c.args.model.now) c.in-Err.ensures)
