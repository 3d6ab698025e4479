-- The grammar of conditions.
use Rattle.std.specs.Prelude.{◌≡◌, ℕ, suc, ◌<◌, List, ◌∷◌, Option, Some, None}
use Rattle.mu_lexer.specs.declared.token.Mark.{Mark}
use Rattle.mu_lexer.specs.declared.token.Mark.TheVariants as marks
use Rattle.mu_tree.specs.declared.tree.Rel.{Rel}
use Rattle.mu_tree.specs.declared.tree.Rel.TheVariants as rels
use Rattle.mu_tree.specs.Expression.{Expression}
use Rattle.mu_tree.specs.ModelTree.{Condition}
use Rattle.mu_grammar.specs.Grammar.{Symbol, mark, IsSum}

-- the relation that a mark denotes, if it denotes one
abbrev pub relation_of : Mark → Option Rel
relation_of marks.Less = Some rels.Less
relation_of marks.LessEqual = Some rels.LessEq
relation_of marks.Greater = Some rels.Greater
relation_of marks.GreaterEqual = Some rels.GreaterEq
relation_of _ = None

-- the condition that compares two expressions
abbrev pub compared : Expression → Rel → Expression → ℕ → Condition
compared left rel right at = record { left = left; rel = rel; right = right; at = at }

-- a prefix of the first token list parses as the condition; the second list is the rest
pub data IsCondition (limit : ℕ) : ℕ → List Symbol → List Symbol → Condition → Type 0 where
  compare : {d at : ℕ} {m : Mark} {rel : Rel} {ts mid rest : List Symbol} {left right : Expression} → IsSum limit d ts (mark m at ∷ mid) left → relation_of m ≡ Some rel → IsSum limit d mid rest right → IsCondition limit d ts rest (compared left rel right at)
  brackets : {d i j : ℕ} {ts rest : List Symbol} {c : Condition} → d < limit → IsCondition limit (suc d) ts (mark marks.CloseRound j ∷ rest) c → IsCondition limit d (mark marks.OpenRound i ∷ ts) rest c
