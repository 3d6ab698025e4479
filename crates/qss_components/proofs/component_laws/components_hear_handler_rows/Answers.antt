use Rattle.qss_components.proofs.RowsTold.{rows_tell_handlers as law}
use Rattle.qss_components.proofs.component_laws.components_hear_handler_rows.Goals as goal

pub returns : goal.returns
returns c = law
