use Rattle.mu_causal.proofs.Common
use Common.{[], ℕ, ◌<◌, AreMarks, ArePassed, Follow, IsBlocked, IsOpen, IsUnmarked, Needs}
use Rattle.mu_causal.proofs.Listing.{unmarked_count}
use Rattle.mu_causal.proofs.dependency_graph.list_ready_dependencies.Given as goal

abbrev pub invariant-loop-v : goal.invariant-loop-v
invariant-loop-v l = record {
  passed : ArePassed l.graph l.marks l.passed.items;
  marks : AreMarks l.graph l.fn.marks l.marks l.vars.items;
  follow : Follow (IsOpen l.graph l.fn.marks) (Needs l.graph l.fn.marks) [] l.vars.items;
  before : (w : ℕ) → w < l.from → IsUnmarked l.marks w → IsBlocked l.graph l.marks w;
}

abbrev pub decreases-loop-v : goal.decreases-loop-v
decreases-loop-v l = unmarked_count l.marks
