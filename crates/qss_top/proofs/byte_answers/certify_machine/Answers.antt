use Rattle.qss_top.proofs.Common.{◌∙◌, sym}
use Rattle.qss_top.proofs.AnswerOutcomes.{bounds_some, done_written, ends_writes}
use Rattle.qss_top.proofs.byte_answers.certify_machine.Goals as goal

pub returns-clause-answered : goal.returns-clause-answered
returns-clause-answered g c = rw c.from.ensures (ends_writes c.certify.result
    (bounds_some c.args.text.m.now c.args.text.bytes.now) c.certify.ensures.answered)

pub returns-clause-sound : goal.returns-clause-sound
returns-clause-sound g c e =
    c.certify.ensures.promised (done_written c.certify.result (sym c.from.ensures ∙ e))
