-- Texts of tokens that are each followed by a blank, and the tokens of this source.
use Rattle.std.specs.Prelude.{ℕ, ◌+◌, List, [], ◌∷◌, ◌++◌, IsTrue, length}
use Rattle.std.specs.List.{flat_map}
use Rattle.mu_lexer.specs.declared.token.Kind.{Kind}
use Rattle.mu_lexer.specs.declared.token.Token.{Token}
use Rattle.mu_lexer.specs.Spelling.{SpellsToken}
use Rattle.mu_lexer.specs.Tokens.{is_blank}

-- a token to be written: its kind, its text, and the blank that follows it
pub record Piece : Type 0 where
  pub kind : Kind
  pub text : List ℕ
  pub blank : ℕ

-- the text is a token of this kind, and a blank follows
pub record IsSpelled (p : Piece) : Type 0 where
  pub text : SpellsToken p.kind p.text
  pub blank : IsTrue (is_blank p.blank)

-- the concatenated bytes of the pieces
abbrev pub spaced_text : List Piece → List ℕ
spaced_text ps = flat_map (λ p. p.text ++ p.blank ∷ []) ps

-- the tokens of the pieces, where the first one begins at offset `at`
abbrev pub spaced_tokens : ℕ → List Piece → List Token
spaced_tokens at [] = []
spaced_tokens at (p ∷ ps) = record { kind = p.kind; start = at; end = at + length p.text } ∷ spaced_tokens (at + length p.text + 1) ps
