-- The place is added to the slot of its tick.
use Rattle.qss_sched.proofs.Common.{◌∙◌, ◌≡◌, length, refl, take_at}
use Rattle.qss_sched.proofs.wheel.Wheel.enter.Goals as goal

pub invariant_of-self : goal.invariant_of-self
invariant_of-self c =
    let put = c.put_in_wheel in
    let many : length put.new.due ≡ c.self.inside.due.len = put.auto.due ∙ c.deref_mut.ensures.len in
    let near = c.if-not-is_near_in_wheel.ensures.0 refl in
    rw (take_at put.new.due _ _ many)
    ((rw c.deref_mut.ensures.value at put.ensures.wheel) c.self.inside.base near.1 near.2 c.self.invariant)
