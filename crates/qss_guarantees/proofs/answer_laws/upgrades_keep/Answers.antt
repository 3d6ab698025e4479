use Rattle.qss_guarantees.proofs.AnswerTheorems.{upgrades}
use Rattle.qss_guarantees.proofs.answer_laws.upgrades_keep.Goals as goal

pub returns : goal.returns
returns c = upgrades
