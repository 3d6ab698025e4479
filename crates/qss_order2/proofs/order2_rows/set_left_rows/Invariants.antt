use Rattle.qss_order2.proofs.Common.{◌+◌, ◌≡◌, ◌≤◌, place_rows, take, vec_capacity, vec_len}
use Rattle.std.specs.Prelude.{flat_map}
use Rattle.qss_order2.proofs.order2_rows.set_left_rows.Given as goal

-- the rows so far
abbrev pub invariant-loop-state : goal.invariant-loop-state
invariant-loop-state l = record {
  rows : l.rows.items ≡ flat_map (place_rows l.kind l.tick l.q.places.items l.q.changes.items)
      (take l.state-index l.left);
  few : vec_len l.rows ≤ l.state-index + l.state-index;
  room : vec_capacity l.rows ≡ vec_capacity l.fn.rows;
}
