use Rattle.qss_answers.proofs.Common.{refl}
use Rattle.qss_answers.proofs.ProposalEnds.{candidate_takes, proposed, no_proposal}
use Rattle.qss_answers.proofs.proposing.proposal_text.Goals as goal

pub returns-in-Ok-propose-clause-text : goal.returns-in-Ok-propose-clause-text
returns-in-Ok-propose-clause-text c = proposed c.args.m.now (c.in-Ok.ensures.inside.0 refl)
    c.in-Ok-propose.proposal c.in-Ok-propose.ensures.proposed c.candidate_text.result
    c.candidate_text.ensures.text

pub returns-in-Ok-propose-clause-no_text : goal.returns-in-Ok-propose-clause-no_text
returns-in-Ok-propose-clause-no_text c = no_proposal c.args.m.now (c.in-Ok.ensures.inside.0 refl)
    c.in-Ok-propose.proposal c.in-Ok-propose.ensures.proposed c.candidate_text.result
    c.candidate_text.ensures.no_text

pub returns-in-Err-propose-clause-no_text : goal.returns-in-Err-propose-clause-no_text
returns-in-Err-propose-clause-no_text c = candidate_takes c.args.m.now
    (c.in-Ok.ensures.inside.0 refl) c.in-Err-propose.ensures.memory_was_needed
