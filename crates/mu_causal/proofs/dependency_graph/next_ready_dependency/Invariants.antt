use Rattle.mu_causal.proofs.Common.{ℕ, ◌<◌, ArePassed, IsBlocked, IsUnmarked}
use Rattle.mu_causal.proofs.dependency_graph.next_ready_dependency.Given as goal

abbrev pub invariant-loop-v : goal.invariant-loop-v
invariant-loop-v l = record {
  passed : ArePassed l.graph l.marks l.passed;
  blocked : (w : ℕ) → w < l.v → IsUnmarked l.marks w → IsBlocked l.graph l.marks w;
}
