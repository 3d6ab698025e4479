use Rattle.qss_guarantees.proofs.Properties.{propose_complete}
use Rattle.qss_guarantees.proofs.command_laws.propose_is_complete.Goals as goal

pub returns : goal.returns
returns c source answer h = propose_complete source answer h
