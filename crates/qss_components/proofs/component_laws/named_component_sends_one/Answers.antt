use Rattle.qss_components.proofs.NamedSends.{named_sends_one as law}
use Rattle.qss_components.proofs.component_laws.named_component_sends_one.Goals as goal

pub returns : goal.returns
returns c = law
