use Rattle.mu_grammar.proofs.ModelDecides.{model_decides}
use Rattle.mu_grammar.proofs.grammar_laws.grammar_machine_decides.Goals as goal

pub returns : goal.returns
returns c = model_decides
