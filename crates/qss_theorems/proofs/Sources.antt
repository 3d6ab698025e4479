-- Facts that hold for every model that a source parses as.
use Rattle.qss_theorems.proofs.Common
use Common.{ℕ, are_tokens, FlatModelTree, IfOk, List, ModelTree, Result, scope_of, subst, symbols}
use Common.{UnrollErr}
use Rattle.mu_grammar.proofs.ReadBackModels.{models_read_back}
use Rattle.mu_tree.specs.FlatModels.{IsFlatModel}
use Rattle.mu_unroll.proofs.FlatModels.{flat_model_right}
use Rattle.mu_unroll.specs.WellFormed.{IsWellFormed}
use Rattle.qss_compile.proofs.WellFormed.{well_formed}
use Rattle.qss_compile.specs.Compilation.{FlatSource, IsFlatOf, SourceParsesAs}
use Rattle.qss_theorems.specs.Sources.{IsSpelledAgain, SourcesAreWellFormed}

model_formed : (bytes : List ℕ) (tree : ModelTree) → SourceParsesAs bytes tree → IsWellFormed tree
model_formed bytes tree (ts, lexed, spelled) = well_formed 64 (symbols bytes ts) tree spelled

flat_formed : (bytes : List ℕ) (tree : ModelTree) (s : FlatSource) → SourceParsesAs bytes tree → IsFlatOf tree s → IsFlatModel s.flat
flat_formed bytes tree s spelled is =
    let P : Result FlatModelTree UnrollErr → Type 0 = λ r. IfOk r IsFlatModel in
    subst P is.1 (flat_model_right tree (scope_of tree).known (model_formed bytes tree spelled))

spelled_again : (bytes : List ℕ) (tree : ModelTree) → SourceParsesAs bytes tree → IsSpelledAgain tree
spelled_again bytes tree (ts, lexed, spelled) =
    let back = models_read_back 64 (symbols bytes ts) tree (are_tokens bytes ts lexed) spelled in
    (back.again, (back.tokens, back.are_tokens, back.spelled), back.same)

pub sources_are_well_formed : SourcesAreWellFormed
sources_are_well_formed = record { tokens = are_tokens; model = model_formed; flat = flat_formed; again = spelled_again }
