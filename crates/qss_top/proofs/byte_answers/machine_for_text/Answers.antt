use Rattle.qss_top.proofs.Common.{inr}
use Rattle.qss_top.proofs.byte_answers.machine_for_text.Goals as goal

pub returns-in-Err-clause-refused : goal.returns-in-Err-clause-refused
returns-in-Err-clause-refused c =
    inr (inr (c.in_ok-m.m, c.in_ok-m.ensures.machine, c.in-Err.ensures.refused))
