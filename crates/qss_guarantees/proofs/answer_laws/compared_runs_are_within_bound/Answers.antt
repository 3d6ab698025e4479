use Rattle.qss_guarantees.proofs.Compared.{near_runs}
use Rattle.qss_guarantees.proofs.answer_laws.compared_runs_are_within_bound.Goals as goal

pub returns : goal.returns
returns c = near_runs
