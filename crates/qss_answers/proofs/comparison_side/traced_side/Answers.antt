use Rattle.qss_answers.proofs.Common.{inl, inr, traced}
use Rattle.qss_answers.proofs.ComparisonEnds.{allowed_stopped}
use Rattle.qss_answers.proofs.comparison_side.traced_side.Goals as goal

pub returns-in-Ok-clause-stopped : goal.returns-in-Ok-clause-stopped
returns-in-Ok-clause-stopped c =
    allowed_stopped c.args.basis.m.now c.args.basis.c.now c.args.run (traced c.args.bytes.now) c.in-Ok.t
    c.allowed_side_trace.result c.in-Ok.ensures.read c.allowed_side_trace.ensures.above

pub returns-in-Err-Refused-clause-stopped : goal.returns-in-Err-Refused-clause-stopped
returns-in-Err-Refused-clause-stopped c =
    inr (inl (rw c.in-Err-Refused.field-0-is at c.in-Err-Refused.ensures.refused))
