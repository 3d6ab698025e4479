-- One more row.
use Rattle.qss_order2.proofs.Common.{ℕ, ◌∙◌, ap, arith, int_at, Place, place_at, place_in, Row2}
use Rattle.qss_order2.proofs.RowLists.{row_more}
use Rattle.qss_order2.specs.declared.order2_rows.Kind2.TheVariants as kind
use Rattle.qss_order2.proofs.order2_rows.add_levels.Goals as goal

pub loop-j-preserved : goal.loop-j-preserved
loop-j-preserved c =
    let a = c.args in
    let j = c.loop-j.j in
    let inv = c.loop-j.invariant in
    let f : ℕ → Row2 = λ i. let p = place_at (place_in a.q.now.places.items i) (int_at
    a.q.now.changes.items i)
    (int_at a.q.now.rises.items i) (int_at a.q.now.bends.items i) a.tick in record {
      tick = a.tick;
      kind =
          kind.End;
      var = i;
      level = p.level;
      state = p.state;
    } in
    record {
      rows = row_more f a.rows.now.items c.loop-j.rows.items c.push_reserved.new.self.items j _
          inv.rows c.push_reserved.ensures.items
          (c.end_row.ensures ∙ ap (λ (p : Place). record {
            tick = a.tick;
            kind = kind.End;
            var =
                j;
            level = p.level;
            state = p.state;
          }) c.place_at.ensures);
      as_many = omega (arith, c.push_reserved.ensures.len, inv.as_many);
      room = c.push_reserved.ensures.capacity ∙ inv.room;
    }
