-- One more row.
use Rattle.qss_hand.proofs.Common.{arith}
use Rattle.qss_hand.proofs.work.Work.note.Goals as goal

pub invariant_of-self : goal.invariant_of-self
invariant_of-self c =
    let known = c.self.invariant in
    record {
      as_many = known.as_many;
      below = known.below;
      same = known.same;
      few = omega (arith, known.few, c.push_reserved.ensures.len);
      has_room = omega (arith, known.has_room, c.push_reserved.ensures.capacity);
    }
