use Rattle.qss_devs.proofs.Common
use Common.{◌≡◌, ◌≤◌, EachAt, IsFirstIntegrator, length, vec_capacity, vec_len}
use Rattle.qss_devs.proofs.coupled_start.start_integrators.Given as goal

-- the integrators so far
abbrev pub invariant-loop-j : goal.invariant-loop-j
invariant-loop-j g l = record {
  each : EachAt (IsFirstIntegrator l.m l.q.value) l.integrators.items;
  as_many : vec_len l.integrators ≡ l.j;
  within : l.j ≤ length l.v.levels.items;
  room : length l.v.levels.items ≤ vec_capacity l.integrators;
}
