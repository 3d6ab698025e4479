use Rattle.mu_causal.proofs.Common.{ℕ, ◌<◌, ◌≡◌, ◌≤◌, get_or, HasEdge, length}
use Rattle.mu_causal.proofs.dependency_graph.first_readers.Given as goal

-- the readers so far
abbrev pub invariant-loop-v : goal.invariant-loop-v
invariant-loop-v l = record {
  same_length : length l.readers.items ≡ length l.graph;
  first : (u w : ℕ) → u < l.v → HasEdge l.graph u w → get_or l.readers.items w 0 ≤ u;
}
