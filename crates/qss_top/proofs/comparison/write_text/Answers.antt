use Rattle.qss_top.proofs.Common.{refl, text_answer}
use Rattle.qss_top.proofs.FrameFacts.{answer_writes, fault_writes}
use Rattle.qss_top.proofs.comparison.write_text.Goals as goal

pub returns-in-Ok : goal.returns-in-Ok
returns-in-Ok g c = answer_writes (text_answer c.args.text.now) refl refl refl refl
    c.in-Ok.ensures.whole c.in-Ok.ensures.no_new_fault (λ e. absurd (cc e))

pub returns-in-Err-Fault : goal.returns-in-Err-Fault
returns-in-Err-Fault g c = fault_writes (text_answer c.args.text.now) refl c.requires
    c.in-Err-Fault.ensures.prefix c.in-Err-Fault.ensures.fault_was_last
