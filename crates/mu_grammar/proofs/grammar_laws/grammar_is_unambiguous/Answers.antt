use Rattle.mu_grammar.proofs.Common.{model_machine, SpellsModel}
use Rattle.mu_grammar.proofs.Fronts.{unique}
use Rattle.mu_grammar.proofs.ModelDecides.{model_decides}
use Rattle.mu_grammar.proofs.grammar_laws.grammar_is_unambiguous.Goals as goal

pub returns : goal.returns
returns c = unique model_machine SpellsModel model_decides
