use Rattle.qss_cli.specs.Commands.{plain_options}
use Rattle.qss_top.proofs.RunOutcomes.{run_writes}
use Rattle.qss_top.proofs.coupled_devs_run.coupled_machine.Goals as goal

pub returns : goal.returns
returns g c = rw c.from.ensures (run_writes plain_options c.args.m c.write_devs_run.result
    (assumption c.write_devs_run.ensures))
