use Rattle.qss_guarantees.proofs.Properties.{propose_sound}
use Rattle.qss_guarantees.proofs.command_laws.propose_is_sound.Goals as goal

pub returns : goal.returns
returns c source answer h = propose_sound source answer h
