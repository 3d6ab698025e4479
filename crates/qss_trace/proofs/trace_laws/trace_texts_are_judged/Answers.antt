use Rattle.qss_trace.proofs.Faultless.{judged}
use Rattle.qss_trace.proofs.OneTrace.{one-trace}
use Rattle.qss_trace.proofs.Spelt.{one-fault, fault-or-text}
use Rattle.qss_trace.proofs.trace_laws.trace_texts_are_judged.Goals as goal

pub returns : goal.returns
returns c = record { judged = judged; one_trace = one-trace; one_fault = one-fault; not_both = fault-or-text }
