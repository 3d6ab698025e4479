use Rattle.qss_cli.proofs.Worked.{words_behind as proof}
use Rattle.qss_cli.proofs.argument_laws.arguments_follow_dashes.Goals as goal

pub returns : goal.returns
returns c = proof
