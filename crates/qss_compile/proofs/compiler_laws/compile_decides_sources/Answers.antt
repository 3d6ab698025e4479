use Rattle.qss_compile.proofs.Existence.{sources_decided}
use Rattle.qss_compile.proofs.compiler_laws.compile_decides_sources.Goals as goal

pub returns : goal.returns
returns c = sources_decided
