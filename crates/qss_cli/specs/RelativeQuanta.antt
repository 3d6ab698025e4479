-- The relative quantum of a task with two files.
use Rattle.std.specs.Prelude.{ℕ}
use Rattle.qss_cli.specs.declared.request.TwoFileTask.{TwoFileTask}
use Rattle.qss_cli.specs.declared.request.TwoFileTask.TheVariants as tasks

-- in 4096ths; 0 if the task has no relative quantum
abbrev pub share_of_task : TwoFileTask → ℕ
share_of_task (tasks.Certify share) = share
share_of_task _ = 0
