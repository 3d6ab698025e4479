-- The command that each request denotes.
use Rattle.std.specs.Prelude.{ℕ, List, option_map}
use Rattle.qss_cli.specs.Commands.{RunOptions, Command, run_model, print_model, certify_model, upgrade_model, generate_model, check_model, propose_model, second_model, compare_runs, coupled_model, Side, first_run, second_run, traced}
use Rattle.qss_cli.specs.declared.request.TwoFileTask.{TwoFileTask}
use Rattle.qss_cli.specs.declared.request.TwoFileTask.TheVariants as deeds
use Rattle.qss_cli.specs.declared.request.Options.{Options}
use Rattle.qss_cli.specs.declared.request.Request.{Request}
use Rattle.qss_cli.specs.declared.request.Request.TheVariants as request
use Rattle.qss_cli.specs.declared.request.Side.{Side as Asked}
use Rattle.qss_cli.specs.declared.request.Side.TheVariants as asked
use Rattle.qss_cli.specs.declared.request.Task.{Task}
use Rattle.qss_cli.specs.declared.request.Task.TheVariants as task

-- the options of a run
abbrev pub options_in : Options → RunOptions
options_in options = record { rule = options.rule; only = option_map (λ name. name.now) options.only; share = options.share }

-- the command of a task with the machine of a model
abbrev pub command_with : Task → List ℕ → Command
command_with (task.Run options) model = run_model model (options_in options)
command_with task.Propose model = propose_model model
command_with task.Second model = second_model model
command_with task.Coupled model = coupled_model model

-- a compared run
abbrev pub side_in : Asked → Side
side_in asked.First = first_run
side_in asked.Second = second_run
side_in (asked.Trace name) = traced name.now

-- the command of a task with a model and a certificate or trace
abbrev pub command_on : TwoFileTask → (model second : List ℕ) → Command
command_on (deeds.Certify share) model certificate = certify_model model certificate share
command_on deeds.Upgrade model certificate = upgrade_model model certificate
command_on deeds.Check model trace = check_model model trace
command_on (deeds.Compare sides) model certificate = compare_runs model certificate (side_in sides.one) (side_in sides.two)

-- the command that a request denotes
abbrev pub command_in : Request → Command
command_in (request.Machine task model) = command_with task model.now
command_in (request.Print model) = print_model model.now
command_in (request.TwoFiles files) = command_on files.task files.model.now files.second.now
command_in (request.Generated generation) = generate_model generation.seed generation.cells
