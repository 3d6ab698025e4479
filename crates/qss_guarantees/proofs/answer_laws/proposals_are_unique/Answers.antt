use Rattle.qss_guarantees.proofs.OneProposalAnswer.{one_proposed}
use Rattle.qss_guarantees.proofs.answer_laws.proposals_are_unique.Goals as goal

pub returns : goal.returns
returns c = one_proposed
