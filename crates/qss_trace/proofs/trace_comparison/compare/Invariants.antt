use Rattle.qss_trace.proofs.Common.{IsSearched}
use Rattle.qss_trace.proofs.trace_comparison.compare.Given as goal

abbrev pub invariant-loop-place1 : goal.invariant-loop-place1
invariant-loop-place1 l = IsSearched l.p l.t1 l.t2 l.place1 l.search
