use Rattle.qss_theorems.proofs.AffectedStates.{affected_states_are_bounded as law}
use Rattle.qss_theorems.proofs.program_laws.program_affected_states_are_bounded.Goals as goal

pub returns : goal.returns
returns c = law
