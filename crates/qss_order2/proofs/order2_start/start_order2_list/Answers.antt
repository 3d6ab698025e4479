-- One more number.
use Rattle.qss_order2.proofs.Common.{[], ◌++◌, ◌∙◌, ◌∷◌, ap, arith, sym}
use Rattle.qss_order2.proofs.RowLists.{range_more}
use Rattle.qss_order2.proofs.order2_start.start_order2_list.Goals as goal

pub loop-j-preserved : goal.loop-j-preserved
loop-j-preserved c =
    let inv = c.loop-j.invariant in
    record {
      so_far = c.push_reserved.ensures.items ∙ ap (λ xs. xs ++ c.loop-j.j ∷ []) inv.so_far
          ∙ sym (range_more c.loop-j.j);
      as_many = omega (arith, c.push_reserved.ensures.len, inv.as_many);
      room = omega (arith, c.push_reserved.ensures.capacity, inv.room);
    }
