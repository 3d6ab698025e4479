use Rattle.qss_components.proofs.Standing.{components_stand as law}
use Rattle.qss_components.proofs.component_laws.components_stand.Goals as goal

pub returns : goal.returns
returns c = law
