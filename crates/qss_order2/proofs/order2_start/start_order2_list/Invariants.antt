use Rattle.qss_order2.proofs.Common.{◌≡◌, ◌≤◌, range_with_len, vec_capacity, vec_len}
use Rattle.qss_order2.proofs.order2_start.start_order2_list.Given as goal

-- the numbers so far
abbrev pub invariant-loop-j : goal.invariant-loop-j
invariant-loop-j l = record {
  so_far : l.list.items ≡ range_with_len 0 l.j;
  as_many : vec_len l.list ≡ l.j;
  room : l.fn.count ≤ vec_capacity l.list;
}
