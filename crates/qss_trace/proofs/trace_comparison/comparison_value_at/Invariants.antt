use Rattle.qss_trace.proofs.Common.{ℕ, ◌<◌, ◌≡◌, difference, length, vector}
use Rattle.qss_trace.proofs.trace_comparison.comparison_value_at.Given as goal

abbrev pub invariant-loop-j : goal.invariant-loop-j
invariant-loop-j l = record {
  size : length l.gaps ≡ 16;
  gaps : (k : ℕ) → k < l.j → vector l.gaps k ≡ difference l.t1 l.t2 l.i1 l.i2 k;
}
