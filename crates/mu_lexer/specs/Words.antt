-- The names of this crate that clauses of many subjects cite, passed on from one place. Declares nothing.
pub use Rattle.mu_lexer.specs.Automaton.{BestUpTo, after_mark, begin, better, ending, lookup, named, next, single_marks, word_among}
pub use Rattle.mu_lexer.specs.Spaced.{IsSpelled, Piece, spaced_text, spaced_tokens}
pub use Rattle.mu_lexer.specs.Spelling.{is_digit, is_exponent_mark, is_letter, is_sign}
pub use Rattle.mu_lexer.specs.Tokens.{AreTokens, BeginsWith, GivesFault, GivesTokens, IsFirstFault, IsWithin, begins_blank, begins_quote, begins_slash, block_length, is_blank, line_length}
pub use Rattle.mu_lexer.specs.declared.lexer.LexErr.{LexErr}
pub use Rattle.mu_lexer.specs.declared.token.TheConstants.{WORDS}
pub use Rattle.mu_lexer.specs.declared.token.Token.{Token}
