use Rattle.qss_components.proofs.Standing.{components_move as law}
use Rattle.qss_components.proofs.component_laws.components_move.Goals as goal

pub returns : goal.returns
returns c = law
