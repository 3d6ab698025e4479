use Rattle.qss_top.proofs.RunOutcomes.{second_writes}
use Rattle.qss_top.proofs.second_order_run.run_second.Goals as goal

pub returns : goal.returns
returns g c = rw c.from.ensures (second_writes c.args.m c.write_second_order.result
    (assumption c.write_second_order.ensures))
