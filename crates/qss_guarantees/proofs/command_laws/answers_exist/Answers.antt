use Rattle.qss_guarantees.proofs.Existence.{answers_exist as proof}
use Rattle.qss_guarantees.proofs.command_laws.answers_exist.Goals as goal

pub returns : goal.returns
returns c = proof
