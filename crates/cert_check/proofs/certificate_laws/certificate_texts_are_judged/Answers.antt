use Rattle.cert_check.proofs.Judged.{judged_texts}
use Rattle.cert_check.proofs.certificate_laws.certificate_texts_are_judged.Goals as goal

pub returns : goal.returns
returns c = judged_texts
