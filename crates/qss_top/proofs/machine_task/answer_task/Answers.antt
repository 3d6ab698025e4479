use Rattle.qss_top.proofs.SourceSteps.{machine_step, machine_refused}
use Rattle.qss_top.proofs.machine_task.answer_task.Goals as goal

pub returns-in-Ok : goal.returns-in-Ok
returns-in-Ok g c =
    machine_step (rw c.share_of.ensures.share at c.in-Ok.ensures.machine)
    c.execute_task_on_machine.ensures

pub returns-in-Err : goal.returns-in-Err
returns-in-Err g c = machine_refused c.requires c.in-Err.ensures.refused
