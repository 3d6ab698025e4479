use Rattle.qss_trace.proofs.Found.{HoldBelow}
use Rattle.qss_trace.proofs.trace_checker.trace_verdict.Given as goal

abbrev pub invariant-loop-place : goal.invariant-loop-place
invariant-loop-place l = HoldBelow l.m l.t l.place
