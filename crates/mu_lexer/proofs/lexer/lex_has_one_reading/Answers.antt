use Rattle.mu_lexer.proofs.Progress.{one_list}
use Rattle.mu_lexer.proofs.lexer.lex_has_one_reading.Goals as goal

pub returns : goal.returns
returns c = one_list
