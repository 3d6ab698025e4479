use Rattle.qss_components.proofs.Agreement.{agreement_lasts as law}
use Rattle.qss_components.proofs.component_laws.agreement_lasts.Goals as goal

pub returns : goal.returns
returns c = law
