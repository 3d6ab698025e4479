-- The tasks with the machine of a model and their answers, and the origins of compared runs.
use Rattle.std.specs.Prelude.{◌≡◌, Bool, true, false, ℕ, List}
use Rattle.qss_machine.specs.declared.compiled_machine.Machine.{Machine}
use Rattle.qss_cli.specs.Commands.{plain_options}
use Rattle.qss_cli.specs.Requests.{options_in}
use Rattle.qss_cli.specs.declared.request.Task.{Task}
use Rattle.qss_cli.specs.declared.request.Task.TheVariants as tasks
use Rattle.qss_top.specs.MachineAnswers.{Answer, printed_run_answer, IsMachineAnswer}
use Rattle.qss_top.specs.MachineAnswers.{IsProposeAnswer, IsSecondAnswer}
use Rattle.qss_top.specs.CommandAnswers.{Origin, given_run, in_file}
use Rattle.qss_answers.specs.Comparisons.{RunSource, first_order, second_order, traced}
use Rattle.qss_top.specs.declared.run_origin.Origin.{Origin as RunOrigin}
use Rattle.qss_top.specs.declared.run_origin.Origin.TheVariants as origins
use Rattle.qss_top.specs.declared.run_origin.RunSource.{RunSource as GivenRun}
use Rattle.qss_top.specs.declared.run_origin.RunSource.TheVariants as given

-- whether a task writes while it runs
abbrev pub task_goes : Task → Bool
task_goes tasks.Propose = false
task_goes _ = true

-- the relative quantum of the task, in 4096ths
abbrev pub task_share : Task → ℕ
task_share (tasks.Run options) = options.share
task_share _ = 0

-- the answer of a task for a machine
abbrev pub IsTaskAnswer : Task → Machine → Answer → Type 0
IsTaskAnswer (tasks.Run options) m answer = answer ≡ printed_run_answer (options_in options) m
IsTaskAnswer tasks.Propose m answer = IsProposeAnswer m answer
IsTaskAnswer tasks.Second m answer = IsSecondAnswer m answer
IsTaskAnswer tasks.Coupled m answer = answer ≡ printed_run_answer plain_options m

-- the answer of a task for the bytes of a model
abbrev pub IsSourceAnswer : Task → List ℕ → Answer → Type 0
IsSourceAnswer task bytes answer =
    IsMachineAnswer (task_share task) (IsTaskAnswer task) bytes answer

-- the source of a run of a comparison
abbrev pub given_in : GivenRun → RunSource
given_in given.First = first_order
given_in given.Second = second_order
given_in (given.Traced bytes) = traced bytes.now

-- the origin of a run of a comparison
abbrev pub origin_in : RunOrigin → Origin
origin_in (origins.Given source) = given_run (given_in source)
origin_in (origins.InFile name) = in_file name.now
