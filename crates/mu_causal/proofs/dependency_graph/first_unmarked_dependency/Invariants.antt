use Rattle.mu_causal.proofs.Common.{ℕ, ◌<◌, ◌≤◌, get_or, IsMarked}
use Rattle.mu_causal.proofs.dependency_graph.first_unmarked_dependency.Given as goal

abbrev pub invariant-loop-place : goal.invariant-loop-place
invariant-loop-place l = (k : ℕ) → l.from ≤ k → k < l.place → IsMarked l.marks (get_or l.names k 0)
