use Rattle.qss_top.proofs.AnswerOutcomes.{long_certify, outside_certify}
use Rattle.qss_top.proofs.SourceSteps.{machine_step, refused_before, refused_not_done}
use Rattle.qss_top.specs.declared.file_reading.FileKind.TheVariants as kinds
use Rattle.qss_top.proofs.byte_answers.answer_certificate.Goals as goal

pub returns-in-Ok-clause-answered : goal.returns-in-Ok-clause-answered
returns-in-Ok-clause-answered g c =
    machine_step c.in-Ok.ensures.machine.means c.certify_machine.ensures.answered

pub returns-in-Err-clause-answered : goal.returns-in-Err-clause-answered
returns-in-Err-clause-answered g c = refused_before kinds.Certificate c.args.text.now (λ m why out. outside_certify m c.args.text.now why out)
    (λ m scope long. long_certify m c.args.text.now scope long) c.in-Err.ensures.refused

-- `out` has gained the bounds of the certificate, and they hold
pub returns-in-Ok-clause-certified : goal.returns-in-Ok-clause-certified
returns-in-Ok-clause-certified g c done =
    let ok = c.in-Ok in
    let (spelled, text, all, kept) = c.certify_machine.ensures.sound done in (
      text,
      (
        all,
        record { machine = ok.m; means = ok.ensures.machine.means; spelled = spelled; kept = kept },
      ),
    )

pub returns-in-Err-clause-certified : goal.returns-in-Err-clause-certified
returns-in-Err-clause-certified g c done = absurd (refused_not_done c.args.share c.args.source.now kinds.Certificate c.args.text.now c.in-Err.what c.in-Err.ensures.refused done)
