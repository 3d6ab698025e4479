use Rattle.qss_devs.proofs.Common.{◌≡◌, ◌≤◌, length, slope_at, tabulate, vec_capacity, vec_len}
use Rattle.qss_devs.proofs.coupled_start.start_coupled_slopes.Given as goal

-- the slopes so far
abbrev pub invariant-loop-j : goal.invariant-loop-j
invariant-loop-j l = record {
  so_far : l.slopes.items ≡ tabulate l.j (λ j. slope_at l.m j l.levels l.d);
  as_many : vec_len l.slopes ≡ l.j;
  within : l.j ≤ length l.levels;
  room : length l.levels ≤ vec_capacity l.slopes;
}
