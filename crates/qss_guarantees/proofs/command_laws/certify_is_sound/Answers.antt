use Rattle.qss_guarantees.proofs.Properties.{certify_sound}
use Rattle.qss_guarantees.proofs.command_laws.certify_is_sound.Goals as goal

pub returns : goal.returns
returns c share source text answer h = certify_sound share source text answer h
