use Rattle.mu_lexer.proofs.Common.{◌+◌, ◌≡◌, drop, line_length}
use Rattle.mu_lexer.proofs.lexer.line_comment_length.Given as goal

-- the bytes so far are of the line
abbrev pub invariant-loop-i : goal.invariant-loop-i
invariant-loop-i l = line_length l.rest ≡ l.i + line_length (drop l.i l.rest)
