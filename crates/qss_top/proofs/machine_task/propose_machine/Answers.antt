use Rattle.qss_top.proofs.AnswerOutcomes.{proposal_some, ends_writes}
use Rattle.qss_top.proofs.machine_task.propose_machine.Goals as goal

pub returns : goal.returns
returns g c = rw c.from.ensures (ends_writes c.propose_text.result (proposal_some c.args.m.now)
    c.propose_text.ensures.answered)
