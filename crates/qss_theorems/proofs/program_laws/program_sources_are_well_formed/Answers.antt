use Rattle.qss_theorems.proofs.Sources.{sources_are_well_formed as law}
use Rattle.qss_theorems.proofs.program_laws.program_sources_are_well_formed.Goals as goal

pub returns : goal.returns
returns c = law
