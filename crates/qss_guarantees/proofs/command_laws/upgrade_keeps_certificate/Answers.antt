use Rattle.qss_guarantees.proofs.Properties.{upgrade_keeps}
use Rattle.qss_guarantees.proofs.command_laws.upgrade_keeps_certificate.Goals as goal

pub returns : goal.returns
returns c source text answer h = upgrade_keeps source text answer h
