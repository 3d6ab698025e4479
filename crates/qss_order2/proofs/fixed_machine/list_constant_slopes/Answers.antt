-- One more drive.
use Rattle.qss_order2.proofs.Common.{◌∙◌, arith, FitsSigned, start_constant_part, to_z-of_z, w128}
use Rattle.qss_order2.proofs.Tables.{table_more}
use Rattle.qss_order2.proofs.fixed_machine.list_constant_slopes.Goals as goal

pub loop-row-preserved : goal.loop-row-preserved
loop-row-preserved c =
    let inv = c.loop-row.invariant in
    let fits : FitsSigned w128 c.constant_slope.result = record { sfits = c.constant_slope.type_inv } in
    record {
      so_far = table_more (start_constant_part c.args.m.now) c.loop-row.row _ _ _ inv.so_far
          c.push_reserved.ensures.items (to_z-of_z w128 c.constant_slope.result fits
          ∙ c.constant_slope.ensures);
      as_many = omega (arith, c.push_reserved.ensures.len, inv.as_many);
      room = omega (arith, c.push_reserved.ensures.capacity, inv.room);
    }
