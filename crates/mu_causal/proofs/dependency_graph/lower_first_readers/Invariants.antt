use Rattle.mu_causal.proofs.Common.{ℕ, ◌<◌, ◌≡◌, ◌≤◌, get_or, length}
use Rattle.mu_causal.proofs.dependency_graph.lower_first_readers.Given as goal

-- the numbers of the row so far
abbrev pub invariant-loop-name : goal.invariant-loop-name
invariant-loop-name l = record {
  same_length : length l.readers.items ≡ length l.initial.readers.items;
  lower : (w : ℕ) → get_or l.readers.items w 0 ≤ get_or l.initial.readers.items w 0;
  named : (k : ℕ) → k < l.name-index → get_or l.readers.items (get_or l.row k 0) 0 ≤ l.v;
}
