use Rattle.mu_causal.proofs.Common.{ℕ, ◌<◌, ◌≡◌, Contains, IsMarked, IsUnmarked, length, Needs}
use Rattle.mu_causal.proofs.Listing.{unmarked_count}
use Rattle.mu_causal.proofs.Rounds.{Leads, AreDistinct}
use Rattle.mu_causal.proofs.dependency_graph.find_dependency_cycle.Given as goal

abbrev pub invariant-loop-seen : goal.invariant-loop-seen
invariant-loop-seen l = record {
  same_length : length l.seen.items ≡ length l.graph;
  there : l.v < length l.graph;
  unmarked : IsUnmarked l.marks l.v;
  leads : Leads (Needs l.graph l.marks) l.path.items l.v;
  on_path : (w : ℕ) → IsMarked l.seen.items w → Contains l.path.items w;
  seen_of : (w : ℕ) → Contains l.path.items w → IsMarked l.seen.items w;
  distinct : AreDistinct l.path.items;
}

abbrev pub decreases-loop-seen : goal.decreases-loop-seen
decreases-loop-seen l = unmarked_count l.seen.items
