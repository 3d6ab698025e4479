-- The first place at the first marked slot is the earliest.
use Rattle.qss_sched.proofs.Firsts.{no_place, earliest}
use Rattle.qss_sched.proofs.wheel_marks.Marks.first.Goals as goal

pub returns-then-self-eq0 : goal.returns-then-self-eq0
returns-then-self-eq0 c =
    let m = c.self.inside in rw (← c.self.view_is) (no_place m.places.items m.groups.items m.slots c.self.invariant c.if-self-eq0.true)

pub returns : goal.returns
returns c =
    let m = c.self.inside in
    rw (← c.self.view_is)
    (earliest m.places.items m.groups.items m.slots c.args.from c.first_marked_slot-later.result _ c.self.invariant c.first_marked_slot-later.ensures (rw c.deref.ensures.value at c.first_marked_place.ensures))
