use Rattle.qss_answers.proofs.Common.{IsUpgrade}
use Rattle.qss_answers.proofs.Ends.{ends_of}
use Rattle.qss_answers.proofs.upgrading.upgrade.Goals as goal

pub returns : goal.returns
returns g c =
    ends_of (λ k. g.O.Sink.written k) (λ k. g.O.Sink.faults k) (λ k. g.O.Sink.failed k)
    (IsUpgrade c.args.text.m.now c.args.text.bytes.now) c.args.out.now c.write_answer.new.out c.upgraded_text.result
    c.upgraded_text.ensures.text c.upgraded_text.ensures.no_text c.write_answer.result
    c.write_answer.ensures.text c.write_answer.ensures.no_text
