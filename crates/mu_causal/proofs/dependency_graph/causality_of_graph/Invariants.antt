use Rattle.mu_causal.proofs.Common.{ℕ, ◌<◌, IsMarked}
use Rattle.mu_causal.proofs.dependency_graph.causality_of_graph.Given as goal

abbrev pub invariant-loop-v : goal.invariant-loop-v
invariant-loop-v l = (w : ℕ) → w < l.v → IsMarked l.marks.items w
