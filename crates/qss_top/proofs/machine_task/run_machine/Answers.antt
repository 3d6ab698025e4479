use Rattle.qss_top.proofs.Common.{sym}
use Rattle.qss_cli.specs.Requests.{options_in}
use Rattle.qss_top.proofs.FrameFacts.{memory_writes}
use Rattle.qss_top.proofs.RunOutcomes.{run_writes}
use Rattle.qss_top.proofs.machine_task.run_machine.Goals as goal

pub returns-in-Ok : goal.returns-in-Ok
returns-in-Ok g c =
    let run = c.write_run_by_rule in
    rw c.from.ensures (run_writes (options_in c.args.options) c.args.m run.result
    (rw (sym c.in-Ok.ensures) (assumption run.ensures)))

pub returns-in-Err : goal.returns-in-Err
returns-in-Err g c = memory_writes
