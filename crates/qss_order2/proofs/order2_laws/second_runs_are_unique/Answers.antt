use Rattle.qss_order2.proofs.Uniqueness.{second_runs_are_unique as law}
use Rattle.qss_order2.proofs.order2_laws.second_runs_are_unique.Goals as goal

pub returns : goal.returns
returns c = law
