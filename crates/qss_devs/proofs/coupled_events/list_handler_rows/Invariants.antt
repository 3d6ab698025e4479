use Rattle.qss_devs.proofs.Common.{◌≡◌, take, vec_capacity, vec_len}
use Rattle.qss_devs.proofs.coupled_events.list_handler_rows.Given as goal

-- the rows so far
abbrev pub invariant-loop-row : goal.invariant-loop-row
invariant-loop-row l = record {
  rows : l.rows.items ≡ take l.row-index l.row-items;
  as_many : vec_len l.rows ≡ l.row-index;
  room : vec_capacity l.rows ≡ vec_capacity l.fn.rows;
}
