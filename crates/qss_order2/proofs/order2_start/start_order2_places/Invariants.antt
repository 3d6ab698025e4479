use Rattle.qss_order2.proofs.Common.{◌≡◌, ◌≤◌, int_at, length, tabulate, vec_capacity, vec_len}
use Rattle.qss_order2.proofs.order2_start.start_order2_places.Given as goal

-- the places so far
abbrev pub invariant-loop-j : goal.invariant-loop-j
invariant-loop-j l = record {
  so_far : l.list.items ≡ tabulate l.j (λ j. record {
    since = 0;
    state = int_at l.states j;
    level =
        int_at l.levels j;
  });
  as_many : vec_len l.list ≡ l.j;
  room : length l.states ≤ vec_capacity l.list;
}
