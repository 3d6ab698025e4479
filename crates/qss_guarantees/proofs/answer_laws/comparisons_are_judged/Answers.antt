use Rattle.qss_guarantees.proofs.Bases.{judged_basis}
use Rattle.qss_guarantees.proofs.Compared.{judged_text}
use Rattle.qss_guarantees.proofs.Sides.{judged_side}
use Rattle.qss_guarantees.proofs.answer_laws.comparisons_are_judged.Goals as goal

pub returns : goal.returns
returns c = record { bases = judged_basis; sides = judged_side; texts = judged_text }
