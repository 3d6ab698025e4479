-- At most as many levels as a machine has states.
use Rattle.qss_own_traces.proofs.Common.{arith}
use Rattle.qss_own_traces.proofs.second_order_trace.check_levels.Goals as goal

pub check_sizes-requires-clause-count_limit : goal.check_sizes-requires-clause-count_limit
check_sizes-requires-clause-count_limit c =
    omega (arith, c.requires.levels, c.args.m.now.has_variables.few)
