-- What the grammar of models allows, the machine of a model reads.
use Rattle.mu_grammar.proofs.Common
use Common.{[], ℕ, ◌∷◌, at_end_name, at_last, at_model_name, behind_title, List, mark}
use Common.{model_machine, model_of, ModelTree, name, new_draft, refl, sections, SpellsModel, State}
use Common.{Symbol, word}
use Rattle.mu_grammar.proofs.ModelReaders.{IsModelReader, read}
use Rattle.mu_grammar.proofs.CompleteLists.{fixed_read}
use Rattle.mu_grammar.proofs.CompleteDeclarations.{with_decls, title_read, heads_read}
use Rattle.mu_grammar.proofs.CompleteDeclarations.{annotation_read}
use Rattle.mu_grammar.proofs.CompleteBodies.{with_held, sections_read}
use Rattle.mu_lexer.specs.declared.token.Word.TheVariants as words
use Rattle.mu_lexer.specs.declared.token.Mark.TheVariants as marks
use Rattle.mu_grammar.specs.declared.symbol.Fixed.TheVariants as fixed
use Rattle.mu_grammar.specs.ModelGrammar as models

-- a whole model
pub model_read : (limit : ℕ) (R : State → List Symbol → Type 0) (F : ModelTree → List Symbol → Type 0) (r : IsModelReader limit R F) (ts : List Symbol) (m : ModelTree) → SpellsModel limit ts m → F m [] → R model_machine.start ts
model_read limit R F r ts m (models.model {i = i} {h = h} {j = j} {at = at} {k = k} {n = n} {end_name = e} {ts = us} {us = vs} {vs = ws} {ws = xs} {ds = ds} {s = s} {ss = ss} titled heads held annotated) is =
    fixed_read limit R F r fixed.ModelWord at_model_name i (name n h ∷ us)
    (r.forth at_model_name (name n h) us
    (read limit R F r (behind_title (new_draft n)) us
    (title_read limit R F r (new_draft n) us vs titled
    (heads_read limit R F r (new_draft n) [] ds vs ws heads
    (sections_read limit R F r (with_decls (new_draft n) ds) (sections [] [] []) s ws xs held
    (annotation_read limit R F r (with_held (with_decls (new_draft n) ds) s) ss xs (word words.End j ∷ name e at ∷ mark marks.Semicolon k ∷ []) (name e at ∷ mark marks.Semicolon k ∷ []) j annotated refl
    (r.forth (at_end_name (with_held (with_decls (new_draft n) ds) s) ss) (name e at) (mark marks.Semicolon k ∷ [])
    (r.forth (at_last (model_of n e at ds s ss)) (mark marks.Semicolon k) [] is))))))))
