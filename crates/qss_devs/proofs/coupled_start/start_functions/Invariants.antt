use Rattle.qss_devs.proofs.Common
use Common.{ℕ, ◌+◌, ◌<◌, ◌≡◌, ◌≤◌, AreFirstInputs, discrete_count, EachAt, get_or, IsFirstFunction}
use Common.{length, state_count, vec_capacity, vec_len}
use Rattle.qss_devs.proofs.coupled_start.start_functions.Given as goal

-- the functions so far, and the inputs of the other rows
abbrev pub invariant-loop-j : goal.invariant-loop-j
invariant-loop-j l = record {
  each : EachAt (IsFirstFunction l.m) l.functions.items;
  as_many : vec_len l.functions ≡ l.j;
  count : length l.lists.items ≡ state_count l.m;
  rest : (row : ℕ) (d : _) → l.j ≤ row → row < length l.lists.items → AreFirstInputs l.m
      (state_count l.m + discrete_count l.m) row (get_or l.lists.items row d).items;
  within : l.j ≤ length l.lists.items;
  room : length l.lists.items ≤ vec_capacity l.functions;
}
