-- What does not rise passes no distance that it does not pass at once.
use Rattle.mu_num.proofs.Common.{arith, ints}
use Rattle.mu_num.proofs.TickLaws.{never_past}
use Rattle.mu_num.proofs.ticks.later_tick_beyond.Goals as goal

pub returns-then-speed-le0 : goal.returns-then-speed-le0
returns-then-speed-le0 c m later in_time past = never_past c.args.dist c.args.speed (omega (arith, ints)) (omega (arith, ints)) m later past
