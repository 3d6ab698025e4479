use Rattle.qss_order2.proofs.Common.{◌≡◌, ◌≤◌, reach_of, tabulate, vec_capacity, vec_len}
use Rattle.qss_order2.proofs.fixed_machine.list_fine_quanta.Given as goal

-- the limits so far
abbrev pub invariant-loop-state : goal.invariant-loop-state
invariant-loop-state l = record {
  so_far : l.limits.items ≡ tabulate l.state (reach_of l.m);
  as_many : vec_len l.limits ≡ l.state;
  room : l.count ≤ vec_capacity l.limits;
}
