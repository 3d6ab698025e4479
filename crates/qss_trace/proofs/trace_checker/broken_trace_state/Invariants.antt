use Rattle.qss_trace.proofs.Common.{ℕ, ◌<◌, HoldsAt}
use Rattle.qss_trace.proofs.trace_checker.broken_trace_state.Given as goal

abbrev pub invariant-loop-j : goal.invariant-loop-j
invariant-loop-j l = (k : ℕ) → k < l.j → HoldsAt l.m l.t l.fact l.place k
