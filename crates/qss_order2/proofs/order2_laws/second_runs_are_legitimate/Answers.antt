use Rattle.qss_order2.proofs.Legitimacy.{second_runs_are_legitimate as law}
use Rattle.qss_order2.proofs.order2_laws.second_runs_are_legitimate.Goals as goal

pub returns : goal.returns
returns c = law
