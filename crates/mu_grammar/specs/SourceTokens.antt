-- Every token that the lexer finds in a source is a token of the grammar.
use Rattle.std.specs.Prelude.{ℕ, List, All}
use Rattle.mu_lexer.specs.Tokens.{AreTokens}
use Rattle.mu_lexer.specs.declared.token.Token.{Token}
use Rattle.mu_grammar.specs.Prefixes.{IsToken}
use Rattle.mu_grammar.specs.Symbols.{symbols}

-- all tokens of a source satisfy IsToken
abbrev pub TokensAreTokens : Type 0
TokensAreTokens = (source : List ℕ) (ts : List Token) → AreTokens source ts → All IsToken (symbols source ts)
