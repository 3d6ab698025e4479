-- The place moves to the slot of its new tick.
use Rattle.qss_sched.proofs.Common.{◌∙◌, ◌≡◌, length, refl, take_at}
use Rattle.qss_sched.proofs.wheel.Wheel.accept.Goals as goal

pub invariant_of-self : goal.invariant_of-self
invariant_of-self c =
    let moved = c.move_in_wheel in
    let many : length moved.new.due ≡ c.self.inside.due.len = moved.auto.due ∙ c.deref_mut.ensures.len in
    let near = c.if-not-is_near_in_wheel.ensures.0 refl in
    rw (take_at moved.new.due _ _ many)
    ((rw c.deref_mut.ensures.value at moved.ensures.wheel) c.self.inside.base near.1 near.2 c.self.invariant)
