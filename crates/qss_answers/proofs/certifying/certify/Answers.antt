use Rattle.qss_answers.proofs.Common.{IsCertification}
use Rattle.qss_answers.proofs.CertificateEnds.{promised}
use Rattle.qss_answers.proofs.Ends.{ends_of}
use Rattle.qss_answers.proofs.certifying.certify.Goals as goal

pub returns-clause-answered : goal.returns-clause-answered
returns-clause-answered g c =
    ends_of (λ k. g.O.Sink.written k) (λ k. g.O.Sink.faults k) (λ k. g.O.Sink.failed k)
    (IsCertification c.args.text.m.now c.args.text.bytes.now) c.args.out.now c.write_answer.new.out c.certification.result
    c.certification.ensures.text c.certification.ensures.no_text c.write_answer.result
    c.write_answer.ensures.text c.write_answer.ensures.no_text

pub returns-clause-promised : goal.returns-clause-promised
returns-clause-promised g c =
    promised c.args.text.m.now c.args.text.bytes.now (λ k. g.O.Sink.written k) (λ k. g.O.Sink.faults k) (λ k. g.O.Sink.failed k)
    c.args.out.now c.write_answer.new.out c.write_answer.result (returns-clause-answered g c)
