use Rattle.qss_answers.proofs.Common.{IsProposed}
use Rattle.qss_answers.proofs.Ends.{ends_of}
use Rattle.qss_answers.proofs.ProposalEnds.{promised}
use Rattle.qss_answers.proofs.proposing.propose_text.Goals as goal

pub returns-clause-answered : goal.returns-clause-answered
returns-clause-answered g c =
    ends_of (λ k. g.O.Sink.written k) (λ k. g.O.Sink.faults k) (λ k. g.O.Sink.failed k)
    (IsProposed c.args.m.now) c.args.out.now c.write_answer.new.out c.proposal_text.result
    c.proposal_text.ensures.text c.proposal_text.ensures.no_text c.write_answer.result
    c.write_answer.ensures.text c.write_answer.ensures.no_text

pub returns-clause-promised : goal.returns-clause-promised
returns-clause-promised g c =
    promised (λ k. g.O.Sink.written k) (λ k. g.O.Sink.faults k) (λ k. g.O.Sink.failed k)
    c.args.out.now c.write_answer.new.out c.args.m.now c.write_answer.result
    (returns-clause-answered g c)
