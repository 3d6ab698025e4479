use Rattle.qss_trace.proofs.Certified.{certified}
use Rattle.qss_trace.proofs.trace_laws.traces_are_certified.Goals as goal

pub returns : goal.returns
returns c = certified
