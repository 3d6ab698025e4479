use Rattle.qss_top.proofs.Common.{inl, inr, refl}
use Rattle.qss_top.proofs.AnswerOutcomes.{long_compare}
use Rattle.qss_top.proofs.SourceSteps.{machine_step, refused_before}
use Rattle.qss_top.specs.declared.file_reading.FileKind.TheVariants as kinds
use Rattle.qss_top.proofs.byte_answers.answer_comparison.Goals as goal

pub returns-in-Ok : goal.returns-in-Ok
returns-in-Ok g c = machine_step c.in-Ok.ensures.machine.means c.compare_machine.ensures

pub returns-in-Err : goal.returns-in-Err
returns-in-Err g c = refused_before kinds.Certificate c.args.text.now (λ m why out. inl (why, out, refl))
    (λ m scope long. inr (scope, long_compare m c.args.text.now scope long))
    c.in-Err.ensures.refused
