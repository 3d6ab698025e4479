use Rattle.qss_top.proofs.Common.{◌∙◌, sym}
use Rattle.qss_top.proofs.FrameFacts.{memory_writes}
use Rattle.qss_top.proofs.command.print_model.Goals as goal

pub write_text-requires : goal.write_text-requires
write_text-requires g c e = cc (sym (c.deref.ensures.value ∙ c.in-Ok.ensures) ∙ e)

pub returns-in-Ok : goal.returns-in-Ok
returns-in-Ok g c = rw (c.deref.ensures.value ∙ c.in-Ok.ensures) at c.write_text.ensures

pub returns-in-Err : goal.returns-in-Err
returns-in-Err g c = memory_writes
