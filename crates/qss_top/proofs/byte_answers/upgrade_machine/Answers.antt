use Rattle.qss_top.proofs.AnswerOutcomes.{upgrade_some, ends_writes}
use Rattle.qss_top.proofs.byte_answers.upgrade_machine.Goals as goal

pub returns : goal.returns
returns g c = rw c.from.ensures (ends_writes c.upgrade.result
    (upgrade_some c.args.text.m.now c.args.text.bytes.now) c.upgrade.ensures)
