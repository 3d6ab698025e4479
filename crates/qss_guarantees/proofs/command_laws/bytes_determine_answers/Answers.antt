use Rattle.qss_guarantees.proofs.Sameness.{bytes_determine_answers as proof}
use Rattle.qss_guarantees.proofs.command_laws.bytes_determine_answers.Goals as goal

pub returns : goal.returns
returns c = proof
