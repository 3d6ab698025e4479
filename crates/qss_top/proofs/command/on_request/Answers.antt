use Rattle.qss_top.proofs.Common.{sym}
use Rattle.qss_top.proofs.FileSteps.{answer_step}
use Rattle.qss_top.proofs.FrameFacts.{task_goes_on, two_files_write_at_end}
use Rattle.qss_top.proofs.command.on_request.Goals as goal

pub returns-in-Machine : goal.returns-in-Machine
returns-in-Machine g c =
    let request = c.in-Machine in
    rw (request.is, sym (task_goes_on request.task request.model.now)) c.execute_file_task.ensures

pub returns-in-Print : goal.returns-in-Print
returns-in-Print g c = rw c.in-Print.is c.print_file.ensures

pub returns-in-TwoFiles : goal.returns-in-TwoFiles
returns-in-TwoFiles g c =
    let files = c.in-TwoFiles.files in
    rw (
      c.in-TwoFiles.is,
      sym (two_files_write_at_end files.task files.model.now files.second.now),
    )
    c.execute_two_file_task.ensures

pub returns-in-Generated : goal.returns-in-Generated
returns-in-Generated g c = rw c.in-Generated.is (answer_step (λ a h. h) c.on_generation.ensures)
