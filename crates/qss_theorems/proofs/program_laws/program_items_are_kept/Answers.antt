use Rattle.qss_theorems.proofs.Kept.{items_are_kept as law}
use Rattle.qss_theorems.proofs.program_laws.program_items_are_kept.Goals as goal

pub returns : goal.returns
returns c = law
