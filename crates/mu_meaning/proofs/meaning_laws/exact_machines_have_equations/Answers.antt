use Rattle.mu_meaning.proofs.ExactMachines.{exact_machines_have_equations as law}
use Rattle.mu_meaning.proofs.meaning_laws.exact_machines_have_equations.Goals as goal

pub returns : goal.returns
returns c = law
