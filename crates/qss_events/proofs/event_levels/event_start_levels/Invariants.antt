use Rattle.qss_events.proofs.Common
use Common.{◌≡◌, ◌≤◌, length, level_below, level_unit, map, StateInfo, take, vec_capacity, vec_len}
use Rattle.qss_events.proofs.event_levels.event_start_levels.Given as goal

-- the levels so far
abbrev pub invariant-loop-j : goal.invariant-loop-j
invariant-loop-j l = record {
  so_far : l.levels.items ≡ map (λ (s : StateInfo). level_below (level_unit l.m) s.x0) (take l.j l.m.states);
  as_many : vec_len l.levels ≡ l.j;
  room : length l.m.states ≤ vec_capacity l.levels;
}
