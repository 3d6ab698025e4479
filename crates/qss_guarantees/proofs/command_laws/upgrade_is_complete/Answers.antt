use Rattle.qss_guarantees.proofs.Properties.{upgrade_complete}
use Rattle.qss_guarantees.proofs.command_laws.upgrade_is_complete.Goals as goal

pub returns : goal.returns
returns c source text answer h = upgrade_complete source text answer h
