use Rattle.qss_guarantees.proofs.Properties.{compare_complete}
use Rattle.qss_guarantees.proofs.command_laws.compare_is_complete.Goals as goal

pub returns : goal.returns
returns c one two source text traces answer h = compare_complete one two source text traces answer h
