use Rattle.mu_causal.proofs.Common.{ℕ, ◌<◌, ◌≤◌, get_or, length}
use Rattle.mu_causal.proofs.dependency_graph.least_cycle_place.Given as goal

abbrev pub invariant-loop-place : goal.invariant-loop-place
invariant-loop-place l = record {
  inside : l.least < length l.numbers;
  least : (k : ℕ) → k < l.place → get_or l.numbers l.least 0 ≤ get_or l.numbers k 0;
}
