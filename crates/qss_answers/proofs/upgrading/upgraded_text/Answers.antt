use Rattle.qss_answers.proofs.Common.{ap, inr, written}
use Rattle.std.proofs.lemmas.Result.{err_from_is_err_and}
use Rattle.qss_answers.proofs.CertificateEnds.{no_upgrade}
use Rattle.qss_answers.specs.declared.answer_result.AnswerErr.TheVariants.{Memory}
use Rattle.qss_answers.proofs.upgrading.upgraded_text.Goals as goal

pub returns-in_err-c-clause-no_text : goal.returns-in_err-c-clause-no_text
returns-in_err-c-clause-no_text c =
    let p = err_from_is_err_and c.from_residual.result c.from_residual.ensures.1 in
    rw (p.1, p.2)
    (no_upgrade c.args.text.m.now c.args.text.bytes.now c.args.text.scope c.args.text.short c.in_err-c.field-0.0
    c.in_err-c.ensures.refused)

pub returns-in_err-write_certificate-clause-no_text :
    goal.returns-in_err-write_certificate-clause-no_text
returns-in_err-write_certificate-clause-no_text c =
    let p = err_from_is_err_and c.from_residual-in_err-write_certificate.result
    c.from_residual-in_err-write_certificate.ensures.1 in
    rw (p.1, p.2)
    (no_upgrade c.args.text.m.now c.args.text.bytes.now c.args.text.scope c.args.text.short Memory tt)

pub returns-clause-text : goal.returns-clause-text
returns-clause-text c =
    inr (c.in_ok-c.c, c.in_ok-c.ensures.read, ap written c.in_ok-write_certificate.ensures.text)
