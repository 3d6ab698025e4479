use Rattle.qss_components.proofs.Sent.{settled_stand as law}
use Rattle.qss_components.proofs.component_laws.settled_components_stand.Goals as goal

pub returns : goal.returns
returns c = law
