use Rattle.qss_answers.proofs.Common.{arith, second_order}
use Rattle.qss_answers.proofs.ComparisonEnds.{allowed_stopped, taken_so}
use Rattle.qss_answers.proofs.comparison_side.second_side.Goals as goal

pub returns-in-Ok-clause-stopped : goal.returns-in-Ok-clause-stopped
returns-in-Ok-clause-stopped c =
    allowed_stopped c.args.basis.m.now c.args.basis.c.now c.args.run second_order c.in-Ok.t
    c.allowed_side_trace.result (omega (arith, c.if-m-gt-LONGEST.false), c.in-Ok.ensures.traced)
    c.allowed_side_trace.ensures.above

pub returns-in-Ok-clause-memory : goal.returns-in-Ok-clause-memory
returns-in-Ok-clause-memory c =
    taken_so _ c.allowed_side_trace.result (omega (arith, c.if-m-gt-LONGEST.false))
