use Rattle.qss_order2.proofs.Common.{◌≡◌, ◌≤◌, start_constant_part, tabulate, vec_capacity, vec_len}
use Rattle.qss_order2.proofs.fixed_machine.list_constant_slopes.Given as goal

-- the drives so far
abbrev pub invariant-loop-row : goal.invariant-loop-row
invariant-loop-row l = record {
  so_far : l.drives.items ≡ tabulate l.row (start_constant_part l.m);
  as_many : vec_len l.drives ≡ l.row;
  room : l.count ≤ vec_capacity l.drives;
}
