use Rattle.mu_meaning.proofs.SourceMachines.{sources_have_meaning as law}
use Rattle.mu_meaning.proofs.meaning_laws.sources_have_meaning.Goals as goal

pub returns : goal.returns
returns c = law
