use Rattle.qss_guarantees.proofs.Properties.{certify_complete}
use Rattle.qss_guarantees.proofs.command_laws.certify_is_complete.Goals as goal

pub returns : goal.returns
returns c share source text answer h = certify_complete share source text answer h
