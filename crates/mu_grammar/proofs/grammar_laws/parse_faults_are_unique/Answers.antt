use Rattle.mu_grammar.proofs.Common.{SpellsModel}
use Rattle.mu_grammar.proofs.Judged.{judged_once}
use Rattle.mu_grammar.proofs.grammar_laws.parse_faults_are_unique.Goals as goal

pub returns : goal.returns
returns c = judged_once SpellsModel
