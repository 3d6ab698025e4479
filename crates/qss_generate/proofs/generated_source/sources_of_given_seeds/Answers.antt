use Rattle.qss_generate.proofs.Worked.{sources_worked as proof}
use Rattle.qss_generate.proofs.generated_source.sources_of_given_seeds.Goals as goal

pub returns : goal.returns
returns c = proof
