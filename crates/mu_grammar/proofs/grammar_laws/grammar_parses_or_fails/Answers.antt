use Rattle.mu_grammar.proofs.Common.{model_machine, SpellsModel}
use Rattle.mu_grammar.proofs.Judged.{judged}
use Rattle.mu_grammar.proofs.ModelDecides.{model_decides}
use Rattle.mu_grammar.proofs.grammar_laws.grammar_parses_or_fails.Goals as goal

pub returns : goal.returns
returns c = judged model_machine SpellsModel model_decides
