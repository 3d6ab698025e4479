use Rattle.qss_guarantees.proofs.ByteAnswers.{byte_answers_are_unique as proof}
use Rattle.qss_guarantees.proofs.command_laws.byte_answers_are_unique.Goals as goal

pub returns : goal.returns
returns c = proof
