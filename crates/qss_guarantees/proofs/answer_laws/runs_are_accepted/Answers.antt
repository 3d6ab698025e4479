use Rattle.qss_guarantees.proofs.AnswerTheorems.{accepted}
use Rattle.qss_guarantees.proofs.answer_laws.runs_are_accepted.Goals as goal

pub returns : goal.returns
returns c = accepted
