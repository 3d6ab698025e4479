use Rattle.qss_guarantees.proofs.Common.{kept_texts}
use Rattle.qss_guarantees.proofs.answer_laws.proposals_are_sound.Goals as goal

pub returns : goal.returns
returns c = kept_texts
