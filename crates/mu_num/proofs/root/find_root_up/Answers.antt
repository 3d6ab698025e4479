use Rattle.mu_num.proofs.Common.{◌+◌, ◌-◌, ◌/◌, ◌≤◌, arith, mul-le}
use Rattle.mu_num.proofs.root.find_root_up.Goals as goal

pub loop-low-preserved : goal.loop-low-preserved
loop-low-preserved c = (
  omega arith,
  c.loop-low.invariant.1,
  c.loop-low.invariant.2,
  λ m below. omega (arith, mul-le m m _ _ (let le : m ≤ c.loop-low.low + (c.loop-low.high - c.loop-low.low) / 2 = omega arith in le) (let le : m ≤ c.loop-low.low + (c.loop-low.high - c.loop-low.low) / 2 = omega arith in le)),
)
