use Rattle.qss_answers.proofs.Common.{inr}
use Rattle.qss_answers.proofs.trace_reading.read_run.Goals as goal

pub returns-in-Err-clause-refused : goal.returns-in-Err-clause-refused
returns-in-Err-clause-refused c =
    inr (inr (inr (c.in_ok-t.t, c.in_ok-t.ensures.read, c.in-Err.ensures.broken)))
