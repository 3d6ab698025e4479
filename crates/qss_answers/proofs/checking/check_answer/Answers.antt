use Rattle.qss_answers.proofs.Common.{ap, inr, written}
use Rattle.qss_answers.proofs.checking.check_answer.Goals as goal

pub returns-clause-text : goal.returns-clause-text
returns-clause-text c =
    inr (c.in_ok-t.t, c.in_ok-t.ensures.read, ap written c.in_ok-summary.ensures)
