use Rattle.qss_machine.proofs.Common.{refl}
use Rattle.qss_machine.proofs.Marking.{marks_more}
use Rattle.qss_machine.proofs.variable_uses.mark_product_use.Goals as goal

pub returns : goal.returns
returns c = marks_more _ _ _ _ _ _ _ (λ v. refl) c.in_ok-mark_reader.ensures c.in_ok-mark_reader-2.ensures
