use Rattle.mu_causal.proofs.Common.{ℕ, ◌<◌, ◌≡◌, get_or}
use Rattle.mu_causal.proofs.dependency_graph.find_cycle_place.Given as goal

abbrev pub invariant-loop-place : goal.invariant-loop-place
invariant-loop-place l = (k : ℕ) → k < l.place → get_or l.numbers k 0 ≡ l.number → ⊥
