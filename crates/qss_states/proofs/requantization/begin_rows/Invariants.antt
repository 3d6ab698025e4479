use Rattle.qss_states.proofs.Common.{◌≡◌, take, vec_capacity, vec_len}
use Rattle.qss_states.proofs.requantization.begin_rows.Given as goal

-- the rows so far
abbrev pub invariant-loop-row : goal.invariant-loop-row
invariant-loop-row l = record {
  so_far : l.rows.items ≡ take l.row-index l.log;
  as_many : vec_len l.rows ≡ l.row-index;
  room : vec_capacity l.rows ≡ vec_capacity l.fn.rows;
}
