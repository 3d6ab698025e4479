use Rattle.qss_order2.proofs.Common
use Common.{◌++◌, ◌+◌, ◌≡◌, int_at, pos, start_discretes, state_count, tabulate, vec_capacity}
use Common.{vec_len}
use Rattle.qss_order2.proofs.order2_rows.add_discretes.Given as goal

-- the rows so far
abbrev pub invariant-loop-g : goal.invariant-loop-g
invariant-loop-g l = record {
  rows : l.rows.items ≡ l.fn.rows.items ++ tabulate l.g (λ g. record {
    tick = l.fn.tick;
    kind =
        l.fn.kind;
    var = state_count l.f.machine + g;
    level = int_at (start_discretes l.f.machine) g;
    state = pos 0;
  });
  as_many : vec_len l.rows ≡ vec_len l.fn.rows + l.g;
  room : vec_capacity l.rows ≡ vec_capacity l.fn.rows;
}
