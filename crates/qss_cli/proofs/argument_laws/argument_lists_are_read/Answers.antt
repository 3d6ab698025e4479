use Rattle.qss_cli.proofs.Worked.{words_worked as proof}
use Rattle.qss_cli.proofs.argument_laws.argument_lists_are_read.Goals as goal

pub returns : goal.returns
returns c = proof
