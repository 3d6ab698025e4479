-- Names from outside the lemmas of this crate that several of its proofs cite, passed on from one place.
pub use Rattle.std.proofs.Common.{[], ℕ, ◌&&◌, ◌++◌, ◌+◌, ◌-◌, ◌<◌, ◌==◌, ◌||◌, ◌∙◌, ◌∷◌, ◌≡◌, ◌≤◌}
pub use Rattle.std.proofs.Common.{◌⊎◌, ap, append_assoc, arith, Bool, drop, false, get_or}
pub use Rattle.std.proofs.Common.{if◌then◌else◌, inl, inr, length, length-drop, List, None, Option}
pub use Rattle.std.proofs.Common.{refl, Some, subst, suc, sym, take, true, zero}
pub use Rattle.std.proofs.lemmas.Bool.{eqb-true}
pub use Rattle.std.proofs.lemmas.List.{take_rest}
pub use Rattle.std.specs.List.{All}
pub use Rattle.std.specs.Option.{option_and_then, option_map}
pub use Rattle.std.specs.Str.{bytes_eq}
pub use Rattle.mu_lexer.specs.Automaton.{begin, BestUpTo, ending, kind_from, kind_of, named, next}
pub use Rattle.mu_lexer.specs.Automaton.{run, word_among}
pub use Rattle.mu_lexer.specs.Spelling.{is_digit, is_digits, is_exponent_mark, is_letter}
pub use Rattle.mu_lexer.specs.Spelling.{is_name_rest, is_quoted, is_sign, is_some_digits}
pub use Rattle.mu_lexer.specs.Spelling.{SpellsToken, word_text}
pub use Rattle.mu_lexer.specs.Tokens.{AreTokens, begins_comment, begins_slash, BeginsWith, blank}
pub use Rattle.mu_lexer.specs.Tokens.{block_length, is_blank, IsWithin, line_length, Reads, stay}
pub use Rattle.mu_lexer.specs.Tokens.{StopsReading, token}
pub use Rattle.mu_lexer.specs.declared.lexer.NextItem.{NextItem}
pub use Rattle.mu_lexer.specs.declared.lexer.Phase.{Phase}
pub use Rattle.mu_lexer.specs.declared.token.Kind.{Kind}
pub use Rattle.mu_lexer.specs.declared.token.Mark.{Mark}
pub use Rattle.mu_lexer.specs.declared.token.Word.{Word}
