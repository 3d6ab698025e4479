use Rattle.qss_answers.proofs.CertificateEnds.{certification_text, no_certification}
use Rattle.qss_answers.proofs.certifying.certification.Goals as goal

pub returns-clause-text : goal.returns-clause-text
returns-clause-text c =
    certification_text c.args.text.m.now c.args.text.bytes.now c.in_ok-c.c c.in_ok-c.ensures.read
    c.certified_text.result c.certified_text.ensures.text

pub returns-clause-no_text : goal.returns-clause-no_text
returns-clause-no_text c =
    no_certification c.args.text.m.now c.args.text.bytes.now c.in_ok-c.c c.in_ok-c.ensures.read
    c.certified_text.result c.certified_text.ensures.no_text
