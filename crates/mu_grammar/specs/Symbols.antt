-- The tokens of a source as symbols of the grammar.
use Rattle.std.specs.Prelude.{ℕ, ◌-◌, List, map, take, drop}
use Rattle.mu_lexer.specs.declared.token.Kind.{Kind}
use Rattle.mu_lexer.specs.declared.token.Kind.TheVariants as kinds
use Rattle.mu_lexer.specs.declared.token.Token.{Token}
use Rattle.mu_grammar.specs.Grammar.{Symbol, number, name, quoted, word, mark}

-- the symbol of this kind, text and byte offset
abbrev pub symbol_with : Kind → List ℕ → ℕ → Symbol
symbol_with kinds.Number text at = number text at
symbol_with kinds.Str text at = quoted at
symbol_with kinds.Ident text at = name text at
symbol_with (kinds.Word w) text at = word w at
symbol_with (kinds.Mark m) text at = mark m at

-- the symbol of a token of a source
abbrev pub symbol_of : List ℕ → Token → Symbol
symbol_of source t = symbol_with t.kind (take (t.end - t.start) (drop t.start source)) t.start

-- the symbols of the tokens of a source
abbrev pub symbols : List ℕ → List Token → List Symbol
symbols source ts = map (symbol_of source) ts
