use Rattle.qss_sched.proofs.Common.{◌≡◌, ◌≤◌, replicate, vec_capacity, vec_len}
use Rattle.qss_sched.proofs.equal_lists.repeat_value.Given as goal

-- the elements so far
abbrev pub invariant-loop : goal.invariant-loop
invariant-loop g l = record {
  items : l.list.items ≡ replicate l.counter l.value;
  length_is : vec_len l.list ≡ l.counter;
  room : l.count ≤ vec_capacity l.list;
}
