use Rattle.mu_lexer.proofs.Common.{◌≡◌, BestUpTo, run, Some, take}
use Rattle.mu_lexer.specs.declared.lexer.Phase.TheVariants as phase
use Rattle.mu_lexer.proofs.lexer.longest_lex_match.Given as goal

-- the phase after the bytes so far, and the longest token among their prefixes
abbrev pub invariant-loop-i : goal.invariant-loop-i
invariant-loop-i l = (run phase.Start (take l.i l.rest) ≡ Some l.phase) × BestUpTo l.rest l.i l.best
