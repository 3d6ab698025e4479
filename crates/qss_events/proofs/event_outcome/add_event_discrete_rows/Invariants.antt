use Rattle.qss_events.proofs.Common.{◌++◌, ◌+◌, ◌≡◌, map, range_with_len, vec_capacity, vec_len}
use Rattle.qss_events.proofs.EndRows.{discrete_row}
use Rattle.qss_events.proofs.event_outcome.add_event_discrete_rows.Given as goal

-- the rows so far
abbrev pub invariant-loop-g : goal.invariant-loop-g
invariant-loop-g l = record {
  rows : l.rows.items ≡ l.fn.rows.items ++ map (discrete_row l.kind l.tick l.first l.d) (range_with_len 0 l.g);
  as_many : vec_len l.rows ≡ vec_len l.fn.rows + l.g;
  room : vec_capacity l.rows ≡ vec_capacity l.fn.rows;
}
