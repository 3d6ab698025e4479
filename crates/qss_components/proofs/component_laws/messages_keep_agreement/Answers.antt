use Rattle.qss_components.proofs.Keeping.{messages_keep_agreement as law}
use Rattle.qss_components.proofs.component_laws.messages_keep_agreement.Goals as goal

pub returns : goal.returns
returns c = law
