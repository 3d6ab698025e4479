use Rattle.qss_answers.proofs.Common.{IsChecked}
use Rattle.qss_answers.proofs.Ends.{ends_of}
use Rattle.qss_answers.proofs.TraceEnds.{accepted, rejected}
use Rattle.qss_answers.proofs.checking.check_trace_text.Goals as goal

pub returns-clause-answered : goal.returns-clause-answered
returns-clause-answered g c =
    ends_of (λ k. g.O.Sink.written k) (λ k. g.O.Sink.faults k) (λ k. g.O.Sink.failed k)
    (IsChecked c.args.text.m.now c.args.text.bytes.now) c.args.out.now c.write_answer.new.out c.check_answer.result
    c.check_answer.ensures.text c.check_answer.ensures.no_text c.write_answer.result
    c.write_answer.ensures.text c.write_answer.ensures.no_text

pub returns-clause-accepted : goal.returns-clause-accepted
returns-clause-accepted g c =
    accepted c.args.text.m.now c.args.text.bytes.now (λ k. g.O.Sink.written k) (λ k. g.O.Sink.faults k) (λ k. g.O.Sink.failed k)
    c.args.out.now c.write_answer.new.out c.write_answer.result (returns-clause-answered g c)

pub returns-clause-rejected : goal.returns-clause-rejected
returns-clause-rejected g c =
    rejected c.args.text.m.now c.args.text.bytes.now (λ k. g.O.Sink.written k) (λ k. g.O.Sink.faults k) (λ k. g.O.Sink.failed k)
    c.args.out.now c.write_answer.new.out c.write_answer.result (returns-clause-answered g c)
