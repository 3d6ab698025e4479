use Rattle.qss_top.proofs.CommandSteps.{files_of_task, long_first, of_sources}
use Rattle.qss_top.proofs.FileSteps.{file_step, map_step, no_file_step}
use Rattle.qss_top.proofs.two_file_command.execute_two_file_task.Goals as goal

pub returns-in-Ok : goal.returns-in-Ok
returns-in-Ok g c =
    let names = files_of_task c.args.files.task c.args.files.model.now c.args.files.second.now in
    rw names
    (file_step c.in-Ok.ensures
    (map_step (of_sources c.args.files.model.now c.args.files.second.now c.in-Ok.bytes.items c.args.files.task)
    (rw c.deref.ensures.value at c.on_model.ensures)))

pub returns-in-Err : goal.returns-in-Err
returns-in-Err g c =
    let names = files_of_task c.args.files.task c.args.files.model.now c.args.files.second.now in
    rw names (no_file_step
    (λ source long. long_first c.args.files.model.now c.args.files.second.now source c.args.files.task long)
    c.in-Err.ensures)
