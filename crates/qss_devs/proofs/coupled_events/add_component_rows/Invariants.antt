use Rattle.qss_devs.proofs.Common
use Common.{◌++◌, ◌+◌, ◌≡◌, map, range_with_len, state_row, vec_capacity, vec_len}
use Rattle.qss_devs.proofs.SnapshotRows.{levels_in, states_in}
use Rattle.qss_devs.proofs.coupled_events.add_component_rows.Given as goal

-- the rows so far
abbrev pub invariant-loop-j : goal.invariant-loop-j
invariant-loop-j g l = record {
  rows : l.rows.items ≡ l.fn.rows.items ++ map (state_row l.kind l.tick (levels_in l.integrators) (states_in l.tick l.integrators)) (range_with_len 0 l.j);
  as_many : vec_len l.rows ≡ vec_len l.fn.rows + l.j;
  room : vec_capacity l.rows ≡ vec_capacity l.fn.rows;
}
