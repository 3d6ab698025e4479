use Rattle.qss_theorems.proofs.Certificates.{written_certificates_are_short as law}
use Rattle.qss_theorems.proofs.program_laws.program_certificates_are_short.Goals as goal

pub returns : goal.returns
returns c = law
