-- Round trip: the canonical text of a model parses as this model.
use Rattle.std.specs.Prelude.{◌≡◌, ℕ, List}
use Rattle.mu_lexer.specs.declared.token.Token.{Token}
use Rattle.mu_lexer.specs.Tokens.{AreTokens}
use Rattle.mu_tree.specs.Bare.{bare_model}
use Rattle.mu_tree.specs.Canonical.{canonical_text}
use Rattle.mu_tree.specs.ModelTree.{ModelTree}
use Rattle.mu_grammar.specs.ModelGrammar.{SpellsModel}
use Rattle.mu_grammar.specs.Symbols.{symbols}

-- The canonical text has tokens. They parse as the model, except for source positions, nested at
-- most limit levels deep.
pub record ReadsBack (limit : ℕ) (m : ModelTree) : Type 0 where
  pub tokens : List Token
  pub are_tokens : AreTokens (canonical_text m) tokens
  pub again : ModelTree
  pub spelled : SpellsModel limit (symbols (canonical_text m) tokens) again
  pub same : bare_model again ≡ bare_model m
