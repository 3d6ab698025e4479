use Rattle.qss_compile.proofs.Singles.{source_single}
use Rattle.qss_compile.proofs.compiler_laws.compiled_machines_are_unique.Goals as goal

pub returns : goal.returns
returns c = λ bytes m n. (source_single bytes).one m n
