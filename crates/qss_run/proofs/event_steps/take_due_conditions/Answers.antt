use Rattle.qss_run.proofs.event_steps.take_due_conditions.Goals as goal

pub returns-clause-changing : goal.returns-clause-changing
returns-clause-changing c =
    let taken = c.take_all.ensures.taken in
    record { numbers = record { rising = taken.numbers.rising; below = taken.numbers.below }; own = taken.own; all = taken.all }

pub returns-clause-taken : goal.returns-clause-taken
returns-clause-taken c =
    let out = c.take_all.ensures.taken.out in record { as_many = out.as_many; before = out.before; none = out.none; others = out.others }
