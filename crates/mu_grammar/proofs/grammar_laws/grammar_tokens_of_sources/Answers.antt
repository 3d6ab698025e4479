use Rattle.mu_grammar.proofs.SourceTokens.{are_tokens}
use Rattle.mu_grammar.proofs.grammar_laws.grammar_tokens_of_sources.Goals as goal

pub returns : goal.returns
returns c = are_tokens
