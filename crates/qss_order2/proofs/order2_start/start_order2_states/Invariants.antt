use Rattle.qss_order2.proofs.Common
use Common.{◌*ℤ◌, ◌≡◌, ◌≤◌, length, map, pos, StateInfo, take, vec_capacity, vec_len}
use Rattle.qss_order2.proofs.order2_start.start_order2_states.Given as goal

-- the states so far
abbrev pub invariant-loop-j : goal.invariant-loop-j
invariant-loop-j l = record {
  so_far : l.list.items ≡ map (λ (s : StateInfo). pos 64 *ℤ s.x0) (take l.j l.m.states);
  as_many : vec_len l.list ≡ l.j;
  room : length l.m.states ≤ vec_capacity l.list;
}
