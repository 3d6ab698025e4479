use Rattle.mu_meaning.proofs.FlatNumbers.{flat_models_are_proper as law}
use Rattle.mu_meaning.proofs.meaning_laws.flat_models_are_proper.Goals as goal

pub returns : goal.returns
returns c = law
