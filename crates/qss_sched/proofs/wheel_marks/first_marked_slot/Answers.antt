use Rattle.qss_sched.proofs.Firsts.{slot_in_rest, slot_around}
use Rattle.qss_sched.proofs.wheel_marks.first_marked_slot.Goals as goal

pub returns-then-rest-ne0 : goal.returns-then-rest-ne0
returns-then-rest-ne0 c = slot_in_rest c.args.slots c.args.from c.ranges.slots.fits c.requires.from c.if-rest-ne0.true

pub returns-else-rest-ne0 : goal.returns-else-rest-ne0
returns-else-rest-ne0 c = slot_around c.args.slots c.args.from c.ranges.slots.fits c.requires.from c.requires.some c.if-rest-ne0.false
