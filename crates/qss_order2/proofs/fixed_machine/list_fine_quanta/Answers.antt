-- One more limit.
use Rattle.qss_order2.proofs.Common.{◌∙◌, arith, FitsSigned, reach_of, to_z-of_z, w128}
use Rattle.qss_order2.proofs.Tables.{table_more}
use Rattle.qss_order2.proofs.fixed_machine.list_fine_quanta.Goals as goal

pub loop-state-preserved : goal.loop-state-preserved
loop-state-preserved c =
    let inv = c.loop-state.invariant in
    let fits : FitsSigned w128 c.fine_state_quantum.result = record { sfits = c.fine_state_quantum.type_inv } in
    record {
      so_far = table_more (reach_of c.args.m.now) c.loop-state.state _ _ _ inv.so_far
          c.push_reserved.ensures.items (to_z-of_z w128 c.fine_state_quantum.result fits
          ∙ c.fine_state_quantum.ensures);
      as_many = omega (arith, c.push_reserved.ensures.len, inv.as_many);
      room = omega (arith, c.push_reserved.ensures.capacity, inv.room);
    }
