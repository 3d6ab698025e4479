-- What is at the slot of the base is due then.
use Rattle.qss_sched.proofs.Common.{refl}
use Rattle.qss_sched.proofs.Wheels.{due_at_base, none_at_base, none_before_place}
use Rattle.qss_sched.proofs.wheel.take_first_in_wheel.Goals as goal

pub returns-then-place-places-clause-wheel : goal.returns-then-place-places-clause-wheel
returns-then-place-places-clause-wheel c = c.take_from_wheel.ensures.wheel c.args.base c.requires

pub returns-then-place-places-clause-taken : goal.returns-then-place-places-clause-taken
returns-then-place-places-clause-taken c = record {
  within = c.if-place-places.true;
  least = due_at_base _ _ c.args.base c.in-Some.place c.requires c.in-Some.ensures;
  without = c.take_from_wheel.ensures.due;
}

pub returns-else-place-places-clause-taken : goal.returns-else-place-places-clause-taken
returns-else-place-places-clause-taken c = (none_before_place _ _ c.args.base c.in-Some.place c.args.places c.requires c.in-Some.ensures c.if-place-places.false, refl)

pub returns-in-None-clause-taken : goal.returns-in-None-clause-taken
returns-in-None-clause-taken c = (none_at_base _ _ c.args.base c.args.places c.requires c.in-None.ensures, refl)
