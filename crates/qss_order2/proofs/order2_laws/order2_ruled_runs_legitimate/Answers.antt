use Rattle.qss_order2.proofs.Legitimacy.{ruled_runs_are_legitimate as law}
use Rattle.qss_order2.proofs.order2_laws.order2_ruled_runs_legitimate.Goals as goal

pub returns : goal.returns
returns c = law
