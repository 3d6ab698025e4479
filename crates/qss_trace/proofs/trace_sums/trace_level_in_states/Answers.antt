use Rattle.qss_trace.proofs.Common.{◌^◌, arith, product_bound, product_is}
use Rattle.qss_trace.proofs.trace_sums.trace_level_in_states.Goals as goal

pub returns-clause-value : goal.returns-clause-value
returns-clause-value c = product_is c.args.unit c.args.level (2 ^ 44) (2 ^ 64) c.ranges.unit c.ranges.level c.requires.unit c.requires.level (omega arith)

pub returns-clause-bound : goal.returns-clause-bound
returns-clause-bound c =
    rw (product_is c.args.unit c.args.level (2 ^ 44) (2 ^ 64) c.ranges.unit c.ranges.level c.requires.unit c.requires.level (omega arith))
    (product_bound c.args.unit c.args.level (2 ^ 44) (2 ^ 64) c.requires.unit c.requires.level)
