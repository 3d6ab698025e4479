-- The sum wraps around.
use Rattle.qss_order2.proofs.Common.{w128}
use Rattle.std.proofs.lemmas.Int.{wrapping_add_is}
use Rattle.qss_order2.proofs.fixed_machine.fixed_column_sum.Goals as goal

pub returns : goal.returns
returns c = wrapping_add_is w128 c.args.a c.args.b c.ranges.a c.ranges.b
