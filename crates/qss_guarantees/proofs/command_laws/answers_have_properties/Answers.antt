use Rattle.qss_guarantees.proofs.Properties.{have_properties}
use Rattle.qss_guarantees.proofs.command_laws.answers_have_properties.Goals as goal

pub returns : goal.returns
returns c = have_properties
