use Rattle.qss_trace.proofs.Greatests.{greatests}
use Rattle.qss_trace.proofs.trace_laws.trace_comparisons_are_unique.Goals as goal

pub returns : goal.returns
returns c = greatests
