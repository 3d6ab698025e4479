use Rattle.qss_compile.proofs.Singles.{source_single}
use Rattle.qss_compile.proofs.compiler_laws.compiled_sources_are_accepted.Goals as goal

pub returns : goal.returns
returns c = λ bytes m r. (source_single bytes).apart m r
