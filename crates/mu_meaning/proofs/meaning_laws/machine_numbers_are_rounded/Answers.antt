use Rattle.mu_meaning.proofs.RoundedMachines.{machines_are_rounded as law}
use Rattle.mu_meaning.proofs.meaning_laws.machine_numbers_are_rounded.Goals as goal

pub returns : goal.returns
returns c = law
