use Rattle.qss_guarantees.proofs.Common.{bounds}
use Rattle.qss_guarantees.proofs.answer_laws.bounds_hold.Goals as goal

pub returns : goal.returns
returns c = bounds
