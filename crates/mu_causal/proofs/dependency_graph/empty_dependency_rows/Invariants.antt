use Rattle.mu_causal.proofs.Common.{[], ℕ, ◌≡◌, length, row_at}
use Rattle.mu_causal.proofs.dependency_graph.empty_dependency_rows.Given as goal

-- the rows so far
abbrev pub invariant-loop-made : goal.invariant-loop-made
invariant-loop-made l = record {
  same_length : length l.graph.items ≡ l._made;
  empty : (v : ℕ) → row_at l.graph.items v ≡ [];
}
