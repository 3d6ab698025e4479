use Rattle.cert_check.proofs.Join.{promised}
use Rattle.cert_check.proofs.Admit.{admitted}
use Rattle.cert_check.proofs.certificate_laws.certificates_are_sound.Goals as goal

pub returns : goal.returns
returns c = record { promised = promised; admitted = admitted }
