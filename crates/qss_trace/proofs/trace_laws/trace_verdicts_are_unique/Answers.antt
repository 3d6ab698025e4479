use Rattle.qss_trace.proofs.OneVerdict.{one-verdict}
use Rattle.qss_trace.proofs.SomeVerdict.{some-verdict}
use Rattle.qss_trace.proofs.trace_laws.trace_verdicts_are_unique.Goals as goal

pub returns : goal.returns
returns c = record { some = some-verdict; one = one-verdict }
