use Rattle.mu_lexer.proofs.SpacedTexts.{spaced_read}
use Rattle.mu_lexer.proofs.lexer.lex_reads_spaced_tokens.Goals as goal

pub returns : goal.returns
returns c = spaced_read
