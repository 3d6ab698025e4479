use Rattle.qss_compile.proofs.WellFormed.{well_formed}
use Rattle.qss_compile.proofs.compiler_laws.compiled_models_are_formed.Goals as goal

pub returns : goal.returns
returns c = well_formed
