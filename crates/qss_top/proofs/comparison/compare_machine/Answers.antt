use Rattle.qss_top.proofs.Common.{inr}
use Rattle.qss_top.proofs.FileSteps.{only_answer}
use Rattle.qss_top.proofs.FrameFacts.{map_answers}
use Rattle.qss_top.proofs.comparison.compare_machine.Goals as goal

pub returns : goal.returns
returns g c =
    map_answers (λ a is. inr (c.args.text.scope, is)) (only_answer c.compare_runs.ensures)
