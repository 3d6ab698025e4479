use Rattle.qss_answers.proofs.Common.{ap, written}
use Rattle.qss_answers.proofs.proposing.candidate_text.Goals as goal

pub returns-in_ok-write_certificate-in-Accepted-clause-text :
    goal.returns-in_ok-write_certificate-in-Accepted-clause-text
returns-in_ok-write_certificate-in-Accepted-clause-text c =
    rw (c.in-Candidate.is, c.in-Accepted.is)
    (ap written c.in_ok-write_certificate-in-Accepted.ensures.text)
