-- There is room for all that change.
use Rattle.qss_run.proofs.Common.{arith}
use Rattle.mu_num.proofs.RisingNumbers.{few_numbers}
use Rattle.qss_run.proofs.run_conditions.Conditions.list_fired.Goals as goal

pub push_reserved-requires : goal.push_reserved-requires
push_reserved-requires c =
    omega (arith, c.loop-condition.invariant.few, c.loop-condition-test.true, c.loop-condition.invariant.room, c.clear.ensures.capacity, few_numbers _ c.args.changed.now c.requires.read.numbers, c.requires.room)
