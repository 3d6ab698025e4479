use Rattle.qss_run.proofs.Common
use Common.{◌++◌, ◌+◌, ◌≡◌, map, range_with_len, state_row, vec_capacity, vec_len}
use Rattle.qss_run.proofs.event_steps.add_state_rows.Given as goal

-- the rows so far
abbrev pub invariant-loop-j : goal.invariant-loop-j
invariant-loop-j l = record {
  rows : l.rows.items ≡ l.fn.rows.items ++ map (state_row l.kind l.tick l.levels l.x) (range_with_len 0 l.j);
  as_many : vec_len l.rows ≡ vec_len l.fn.rows + l.j;
  room : vec_capacity l.rows ≡ vec_capacity l.fn.rows;
}
