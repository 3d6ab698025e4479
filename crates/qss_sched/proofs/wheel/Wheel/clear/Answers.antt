-- The place leaves the slot of its tick.
use Rattle.qss_sched.proofs.Common.{◌∙◌, ◌≡◌, length, take_at}
use Rattle.qss_sched.proofs.wheel.Wheel.clear.Goals as goal

pub invariant_of-self : goal.invariant_of-self
invariant_of-self c =
    let taken = c.take_out_of_wheel in
    let many : length taken.new.due ≡ c.self.inside.due.len = taken.auto.due ∙ c.deref_mut.ensures.len in
    rw (take_at taken.new.due _ _ many) ((rw c.deref_mut.ensures.value at taken.ensures.wheel) c.self.inside.base c.self.invariant)
