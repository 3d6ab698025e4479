use Rattle.cert_check.proofs.Quanta.{smaller-quanta}
use Rattle.cert_check.proofs.certificate_laws.certificates_allow_smaller_quanta.Goals as goal

pub returns : goal.returns
returns c = smaller-quanta
