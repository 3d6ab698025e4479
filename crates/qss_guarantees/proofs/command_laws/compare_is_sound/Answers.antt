use Rattle.qss_guarantees.proofs.Properties.{compare_sound}
use Rattle.qss_guarantees.proofs.command_laws.compare_is_sound.Goals as goal

pub returns : goal.returns
returns c one two source text traces answer h ok =
    compare_sound one two source text traces answer ok h
