use Rattle.mu_grammar.proofs.ReadBackModels.{models_read_back}
use Rattle.mu_grammar.proofs.grammar_laws.grammar_reads_models_back.Goals as goal

pub returns : goal.returns
returns c = models_read_back
