use Rattle.qss_top.proofs.AnswerOutcomes.{long_check, outside_check}
use Rattle.qss_top.proofs.SourceSteps.{machine_step, refused_before, refused_not_done}
use Rattle.qss_top.specs.declared.file_reading.FileKind.TheVariants as kinds
use Rattle.qss_top.proofs.byte_answers.answer_trace.Goals as goal

pub returns-in-Ok-clause-answered : goal.returns-in-Ok-clause-answered
returns-in-Ok-clause-answered g c =
    machine_step c.in-Ok.ensures.machine.means c.check_machine.ensures.answered

pub returns-in-Err-clause-answered : goal.returns-in-Err-clause-answered
returns-in-Err-clause-answered g c = refused_before kinds.Trace c.args.text.now (λ m why out. outside_check m c.args.text.now why out)
    (λ m scope long. long_check m c.args.text.now scope long) c.in-Err.ensures.refused

pub returns-in-Ok-clause-legitimate : goal.returns-in-Ok-clause-legitimate
returns-in-Ok-clause-legitimate g c done =
    (c.in-Ok.m, c.in-Ok.ensures.machine.means, c.check_machine.ensures.legitimate done)

pub returns-in-Err-clause-legitimate : goal.returns-in-Err-clause-legitimate
returns-in-Err-clause-legitimate g c done = absurd (refused_not_done 0 c.args.source.now kinds.Trace c.args.text.now c.in-Err.what c.in-Err.ensures.refused done)
