use Rattle.qss_components.proofs.Standing.{crossings_tell as law}
use Rattle.qss_components.proofs.component_laws.component_crossings_tell.Goals as goal

pub returns : goal.returns
returns c = law
