use Rattle.qss_machine.proofs.Common.{row_at}
use Rattle.qss_machine.proofs.WeightLaws.{slope-within_weight}
use Rattle.qss_machine.proofs.machine_run_laws.machine_slopes_within_weights.Goals as goal

pub returns : goal.returns
returns c = λ m j levels discretes. slope-within_weight m.f (row_at m j) levels discretes
