-- From each stage of a condition some tokens complete it.
use Rattle.mu_grammar.proofs.Common
use Common.{[], ℕ, ◌∷◌, after_primary, All, at_sum, before, behind, compared, Condition, Expression}
use Common.{false, first_part, Frame, in_left, in_right, inside, IsToken, length, List, mark}
use Common.{nested, Number, Position, refl, Rel, Stage, suc, Symbol, word, zero}
use Rattle.mu_grammar.proofs.SumsEnds.{ends, one, one_token, token_then}
use Rattle.mu_grammar.proofs.ConditionsComplete.{IsConditionReader, InLeft, AfterLeft, AfterRight}
use Rattle.mu_grammar.proofs.ConditionsComplete.{AfterCondition, left_reader, right_reader}
use Rattle.mu_grammar.proofs.ConditionsComplete.{behind_read, after_left_relation}
use Rattle.mu_lexer.specs.declared.token.Word.TheVariants as words
use Rattle.mu_lexer.specs.declared.token.Mark.TheVariants as marks
use Rattle.mu_tree.specs.declared.tree.Rel.TheVariants as rels

module _ (limit d : ℕ) (B : Stage → List Symbol → Type 0) (L : Condition → List Symbol → Type 0) (r : IsConditionReader limit d B L) (end : (c : Condition) → (more : List Symbol) × L c more × All IsToken more) where
  close_ends : (c : Condition) (k : ℕ) → (more : List Symbol) × AfterCondition limit d B L r k c more × All IsToken more
  close_ends c zero = (word words.Then 0 ∷ (end c).0, (end c).1, token_then (word words.Then 0) (end c).0 tt (end c).2)
  close_ends c (suc k) = let rest = close_ends c k in (mark marks.CloseRound 0 ∷ rest.0, behind_read limit d B L r c k rest.0 rest.1, token_then (mark marks.CloseRound 0) rest.0 tt rest.2)

  right_end : (left : Expression) (rel : Rel) (at k : ℕ) (e : Expression) → (more : List Symbol) × AfterRight limit d B L r left rel at k e more × All IsToken more
  right_end left rel at k e = go (close_ends (compared left rel e at) k).0 (close_ends (compared left rel e at) k).1 (close_ends (compared left rel e at) k).2
    where
      go : (more : List Symbol) → AfterCondition limit d B L r k (compared left rel e at) more → All IsToken more → (us : List Symbol) × AfterRight limit d B L r left rel at k e us × All IsToken us
      go [] is all = absurd is
      go (x ∷ more) is all = (x ∷ more, is, all)

  right_ends : (left : Expression) (rel : Rel) (at k : ℕ) (p : Position) (fs : List Frame) → (more : List Symbol) × B (in_right left rel at k p fs) more × All IsToken more
  right_ends left rel at k p fs = ends limit (nested d k) (λ q gs ts. B (in_right left rel at k q gs) ts) (AfterRight limit d B L r left rel at k) (right_reader limit d B L r left rel at k) (right_end left rel at k) p fs

  left_end : (places : List ℕ) (e : Expression) → (more : List Symbol) × AfterLeft limit d B L r places e more × All IsToken more
  left_end places e =
      let rest = right_ends e rels.Less 0 (length places) at_sum [] in
      (mark marks.Less 0 ∷ rest.0, after_left_relation limit d B L r places e marks.Less 0 rest.0 rels.Less refl rest.1, token_then (mark marks.Less 0) rest.0 tt rest.2)

  left_ends : (places : List ℕ) (p : Position) (fs : List Frame) → (more : List Symbol) × B (in_left places p fs) more × All IsToken more
  left_ends places p fs = ends limit (inside d places) (InLeft limit d B L r places) (AfterLeft limit d B L r places) (left_reader limit d B L r places) (left_end places) p fs

  -- each stage leads to an end
  pub stage_ends : (s : Stage) → (more : List Symbol) × B s more × All IsToken more
  stage_ends (before places) =
      let rest = left_ends places (after_primary (Number (49 ∷ []) 0) (first_part [] false 0 0)) [] in
      (one ∷ rest.0, r.forth (before places) one rest.0 rest.1, token_then one rest.0 one_token rest.2)
  stage_ends (in_left places p fs) = left_ends places p fs
  stage_ends (in_right left rel at k p fs) = right_ends left rel at k p fs
  stage_ends (behind c k) = let rest = close_ends c k in (rest.0, behind_read limit d B L r c k rest.0 rest.1, rest.2)
