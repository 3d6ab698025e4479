-- One more row.
use Rattle.qss_events.proofs.Common
use Common.{ℤ, ◌+◌, ◌∙◌, ap, arith, FitsSigned, int_at, ints, pos, Row, to_z-of_z, w64}
use Rattle.qss_events.proofs.EndRows.{discrete_row, row_more}
use Rattle.qss_events.proofs.event_outcome.add_event_discrete_rows.Goals as goal

pub loop-g-preserved : goal.loop-g-preserved
loop-g-preserved c =
    let g = c.loop-g.g in
    let inv = c.loop-g.invariant in
    let value : FitsSigned w64 (int_at c.args.d.now g) = omega (arith, ints) in
    let row_at : ℤ → Row = λ l. record { tick = c.args.tick; kind = c.args.kind; var = c.args.first + g; level = l; state = pos 0 } in
    record {
      rows = row_more (discrete_row c.args.kind c.args.tick c.args.first c.args.d.now) c.args.rows.now.items c.loop-g.rows.items c.push_reserved.new.self.items g _ inv.rows c.push_reserved.ensures.items
          (ap row_at (to_z-of_z w64 (int_at c.args.d.now g) value));
      as_many = omega (arith, c.push_reserved.ensures.len, inv.as_many);
      room = c.push_reserved.ensures.capacity ∙ inv.room;
    }
