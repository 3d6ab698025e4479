use Rattle.qss_top.proofs.SourceSteps.{machine_too_long}
use Rattle.qss_top.proofs.byte_answers.answer_source.Goals as goal

pub returns-then-source-gt-MODEL_LIMIT : goal.returns-then-source-gt-MODEL_LIMIT
returns-then-source-gt-MODEL_LIMIT g c = machine_too_long c.if-source-gt-MODEL_LIMIT.true
