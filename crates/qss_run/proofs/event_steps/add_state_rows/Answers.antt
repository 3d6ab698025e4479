-- One more row.
use Rattle.qss_run.proofs.Common
use Common.{ℤ, ◌∙◌, ap, arith, FitsSigned, int_at, ints, of_z, Row, state_row, to_z, to_z-of_z}
use Common.{w128, w64}
use Rattle.qss_events.proofs.EndRows.{row_more}
use Rattle.qss_run.proofs.event_steps.add_state_rows.Goals as goal

pub loop-j-preserved : goal.loop-j-preserved
loop-j-preserved c =
    let j = c.loop-j.j in
    let inv = c.loop-j.invariant in
    let x : FitsSigned w128 (int_at c.args.x.now j) = omega (arith, ints) in
    let level : FitsSigned w64 (int_at c.args.levels.now j) = omega (arith, ints) in
    let row_at : ℤ → ℤ → Row = λ l z. record { tick = c.args.tick; kind = c.args.kind; var = j; level = l; state = z } in
    record {
      rows = row_more (state_row c.args.kind c.args.tick c.args.levels.now c.args.x.now) c.args.rows.now.items c.loop-j.rows.items c.push_reserved.new.self.items j _ inv.rows c.push_reserved.ensures.items
          (ap (λ l. row_at l (to_z w128 (of_z w128 (int_at c.args.x.now j)))) (to_z-of_z w64 (int_at c.args.levels.now j) level) ∙ ap (row_at (int_at c.args.levels.now j)) (to_z-of_z w128 (int_at c.args.x.now j) x));
      as_many = omega (arith, c.push_reserved.ensures.len, inv.as_many);
      room = c.push_reserved.ensures.capacity ∙ inv.room;
    }
