-- Properties of every parsed source, which are the preconditions of the later phases.
use Rattle.std.specs.Prelude.{◌≡◌, ℕ, List, All}
use Rattle.mu_grammar.specs.Prefixes.{IsToken}
use Rattle.mu_grammar.specs.Symbols.{symbols}
use Rattle.mu_lexer.specs.Tokens.{AreTokens}
use Rattle.mu_lexer.specs.declared.token.Token.{Token}
use Rattle.mu_tree.specs.Bare.{bare_model}
use Rattle.mu_tree.specs.Canonical.{canonical_text}
use Rattle.mu_tree.specs.FlatModels.{IsFlatModel}
use Rattle.mu_tree.specs.ModelTree.{ModelTree}
use Rattle.mu_unroll.specs.WellFormed.{IsWellFormed}
use Rattle.qss_compile.specs.Compilation.{FlatSource, IsFlatOf, SourceParsesAs}

-- a model's canonical text parses as this model, except for source positions
abbrev pub IsSpelledAgain : ModelTree → Type 0
IsSpelledAgain tree = (again : ModelTree) × SourceParsesAs (canonical_text tree) again × (bare_model again ≡ bare_model tree)

-- A parsed source is well formed, as the phases require.
pub record SourcesAreWellFormed : Type 0 where
  -- its tokens are tokens of the grammar
  pub tokens : (bytes : List ℕ) (ts : List Token) → AreTokens bytes ts → All IsToken (symbols bytes ts)
  -- its model and its flat model are well formed
  pub model : (bytes : List ℕ) (tree : ModelTree) → SourceParsesAs bytes tree → IsWellFormed tree
  pub flat : (bytes : List ℕ) (tree : ModelTree) (s : FlatSource) → SourceParsesAs bytes tree → IsFlatOf tree s → IsFlatModel s.flat
  -- its canonical text parses as the same model
  pub again : (bytes : List ℕ) (tree : ModelTree) → SourceParsesAs bytes tree → IsSpelledAgain tree
