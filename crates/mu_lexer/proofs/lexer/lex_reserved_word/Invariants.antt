use Rattle.mu_lexer.proofs.Common.{◌≡◌, drop, word_among}
use Rattle.mu_lexer.proofs.lexer.lex_reserved_word.Given as goal

-- the word is none of those so far
abbrev pub invariant-loop-word : goal.invariant-loop-word
invariant-loop-word l = word_among l.words l.text ≡ word_among (drop l.word-index l.words) l.text
