use Rattle.qss_order2.proofs.Common
use Common.{◌++◌, ◌+◌, ◌≡◌, int_at, place_at, place_in, tabulate, vec_capacity, vec_len}
use Rattle.qss_order2.specs.declared.order2_rows.Kind2.TheVariants as kind
use Rattle.qss_order2.proofs.order2_rows.add_levels.Given as goal

-- the rows so far
abbrev pub invariant-loop-j : goal.invariant-loop-j
invariant-loop-j l = record {
  rows : l.rows.items ≡ l.fn.rows.items ++ tabulate l.j (λ j. let p =
      place_at (place_in l.q.places.items j) (int_at l.q.changes.items j) (int_at l.q.rises.items j)
      (int_at l.q.bends.items j)
      l.tick in record {
        tick = l.tick;
        kind = kind.End;
        var = j;
        level = p.level;
        state =
            p.state;
      });
  as_many : vec_len l.rows ≡ vec_len l.fn.rows + l.j;
  room : vec_capacity l.rows ≡ vec_capacity l.fn.rows;
}
