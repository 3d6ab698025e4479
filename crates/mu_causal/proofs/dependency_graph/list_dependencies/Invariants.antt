use Rattle.mu_causal.proofs.Common
use Common.{ℕ, ◌++◌, ◌≡◌, drop, flat_equation, length, map, open_names, row_at}
use Rattle.mu_causal.proofs.dependency_graph.list_dependencies.Given as goal

-- the rows so far and the names of the equations that are left are the whole rows
abbrev pub invariant-loop-equation : goal.invariant-loop-equation
invariant-loop-equation l = record {
  same_length : length l.graph.items ≡ length l.known.items;
  rows : (v : ℕ) →
      row_at l.graph.items v
      ++ open_names l.known.items (map flat_equation (drop l.equation-index l.equation-items)) v
      ≡ open_names l.known.items (map flat_equation l.equation-items) v;
}
