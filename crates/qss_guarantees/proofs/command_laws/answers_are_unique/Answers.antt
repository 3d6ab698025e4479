use Rattle.qss_guarantees.proofs.Sameness.{answers_are_unique as proof}
use Rattle.qss_guarantees.proofs.command_laws.answers_are_unique.Goals as goal

pub returns : goal.returns
returns c = proof
