use Rattle.mu_lexer.proofs.Common.{◌-◌, ◌≤◌, All, IsWithin, length}
use Rattle.std.proofs.Common.{vec_len}
use Rattle.mu_lexer.proofs.Progress.{Progress}
use Rattle.mu_lexer.proofs.lexer.lex.Given as goal

-- the tokens so far, all within the source, and no more than bytes
abbrev pub invariant-loop-at : goal.invariant-loop-at
invariant-loop-at l = Progress l.source l.at l.tokens.items × All (IsWithin l.source) l.tokens.items × (vec_len l.tokens ≤ l.at)

abbrev pub decreases-loop-at : goal.decreases-loop-at
decreases-loop-at l = length l.source - l.at
