use Rattle.qss_order2.proofs.Common
use Common.{ℤ, ◌≡◌, ◌≤◌, floor_of, length, level_unit, map, take, vec_capacity, vec_len}
use Rattle.qss_order2.proofs.order2_start.start_order2_levels.Given as goal

-- the levels so far
abbrev pub invariant-loop-j : goal.invariant-loop-j
invariant-loop-j l = record {
  so_far : l.list.items ≡ map (λ (x : ℤ). floor_of x (level_unit l.f.machine)) (take l.j l.states);
  as_many : vec_len l.list ≡ l.j;
  room : length l.states ≤ vec_capacity l.list;
}
