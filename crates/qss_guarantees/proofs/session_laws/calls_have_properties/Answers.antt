use Rattle.qss_guarantees.proofs.CallProperties.{calls_have_properties as proof}
use Rattle.qss_guarantees.proofs.session_laws.calls_have_properties.Goals as goal

pub returns : goal.returns
returns c = proof
