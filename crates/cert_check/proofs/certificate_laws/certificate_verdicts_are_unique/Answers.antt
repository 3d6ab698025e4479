use Rattle.cert_check.proofs.Verdicts.{verdicts}
use Rattle.cert_check.proofs.certificate_laws.certificate_verdicts_are_unique.Goals as goal

pub returns : goal.returns
returns c = verdicts
