use Rattle.qss_compile.proofs.Singles.{source_single}
use Rattle.qss_compile.proofs.compiler_laws.compile_causes_are_unique.Goals as goal

pub returns : goal.returns
returns c = λ bytes r s. (source_single bytes).alike r s
