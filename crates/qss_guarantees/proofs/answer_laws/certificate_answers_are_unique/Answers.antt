use Rattle.qss_guarantees.proofs.OneCertificateAnswer.{one_each}
use Rattle.qss_guarantees.proofs.answer_laws.certificate_answers_are_unique.Goals as goal

pub returns : goal.returns
returns c = one_each
