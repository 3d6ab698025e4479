-- The difference wraps around.
use Rattle.qss_order2.proofs.Common.{w128}
use Rattle.std.proofs.lemmas.Int.{wrapping_sub_is}
use Rattle.qss_order2.proofs.order2_motion.motion_difference.Goals as goal

pub returns : goal.returns
returns c = wrapping_sub_is w128 c.args.new c.args.old c.ranges.new c.ranges.old
