use Rattle.qss_top.proofs.AnswerOutcomes.{long_upgrade, outside_upgrade}
use Rattle.qss_top.proofs.SourceSteps.{machine_step, refused_before}
use Rattle.qss_top.specs.declared.file_reading.FileKind.TheVariants as kinds
use Rattle.qss_top.proofs.byte_answers.answer_upgrade.Goals as goal

pub returns-in-Ok : goal.returns-in-Ok
returns-in-Ok g c = machine_step c.in-Ok.ensures.machine.means c.upgrade_machine.ensures

pub returns-in-Err : goal.returns-in-Err
returns-in-Err g c = refused_before kinds.Certificate c.args.text.now (λ m why out. outside_upgrade m c.args.text.now why out)
    (λ m scope long. long_upgrade m c.args.text.now scope long) c.in-Err.ensures.refused
