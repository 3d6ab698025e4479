use Rattle.qss_trace.proofs.Certified.{bounded}
use Rattle.qss_trace.proofs.trace_laws.trace_comparison_is_bounded.Goals as goal

pub returns : goal.returns
returns c = bounded
