-- The grammar of equations, statements and clauses.
-- Each relation relates a token list, the tokens after the parsed part, and the parsed tree.
-- d is the current nesting depth (brackets, loops, clauses); limit is the greatest allowed depth.
use Rattle.std.specs.Prelude.{◌≡◌, ℕ, suc, ◌<◌, Bool, true, List, [], ◌∷◌}
use Rattle.mu_lexer.specs.declared.token.Word.TheVariants as words
use Rattle.mu_lexer.specs.declared.token.Mark.TheVariants as marks
use Rattle.mu_tree.specs.Expression.{Expression, Reference}
use Rattle.mu_tree.specs.ModelTree.{Condition, EquationTree, Derivative, Algebraic, EachEquation, EquationTrees, no_equations, equation_then, StatementTree, Assign, Restart, EachStatement, StatementTrees, no_statements, statement_then, BranchTree, ClauseTree, Branches, EachClause, ClauseTrees, no_clauses, clause_then}
use Rattle.mu_grammar.specs.Grammar.{Symbol, word, mark, IsSum, IsReference}
use Rattle.mu_grammar.specs.Conditions.{IsCondition}
use Rattle.mu_grammar.specs.Lists.{Listed, MaybeString}
use Rattle.mu_grammar.specs.Loops.{Kind, IsItem}

-- an equation that is not a loop
pub data IsBareEquation (limit : ℕ) : ℕ → List Symbol → List Symbol → EquationTree → Type 0 where
  derivative : {d h i j k l : ℕ} {ts us vs rest : List Symbol} {r : Reference} {v : Expression} → d < limit → IsReference limit (suc d) ts (mark marks.CloseRound j ∷ mark marks.Equal k ∷ us) r → IsSum limit d us vs v → MaybeString vs (mark marks.Semicolon l ∷ rest) →
      IsBareEquation limit d (word words.Der h ∷ mark marks.OpenRound i ∷ ts) rest (Derivative r v)
  algebraic : {d k l : ℕ} {ts us vs rest : List Symbol} {r : Reference} {v : Expression} → IsReference limit d ts (mark marks.Equal k ∷ us) r → IsSum limit d us vs v → MaybeString vs (mark marks.Semicolon l ∷ rest) →
      IsBareEquation limit d ts rest (Algebraic r v)

abbrev pub equation_kind : Kind EquationTree EquationTrees
equation_kind = record { each = EachEquation; none = no_equations; then = equation_then }

-- an equation
abbrev pub IsEquation : ℕ → ℕ → List Symbol → List Symbol → EquationTree → Type 0
IsEquation limit = IsItem limit equation_kind (IsBareEquation limit)

-- a statement that is not a loop; may_reinit is whether reinit is allowed
pub data IsBareStatement (limit : ℕ) (may_reinit : Bool) : ℕ → List Symbol → List Symbol → StatementTree → Type 0 where
  assign : {d k l : ℕ} {ts us rest : List Symbol} {r : Reference} {v : Expression} → IsReference limit d ts (mark marks.Assign k ∷ us) r → IsSum limit d us (mark marks.Semicolon l ∷ rest) v → IsBareStatement limit may_reinit d ts rest (Assign r v)
  restart : {d h i j k l : ℕ} {ts us rest : List Symbol} {r : Reference} {v : Expression} → may_reinit ≡ true → d < limit → IsReference limit (suc d) ts (mark marks.Comma k ∷ us) r → IsSum limit (suc d) us (mark marks.CloseRound j ∷ mark marks.Semicolon l ∷ rest) v →
      IsBareStatement limit may_reinit d (word words.Reinit h ∷ mark marks.OpenRound i ∷ ts) rest (Restart r v)

abbrev pub statement_kind : Kind StatementTree StatementTrees
statement_kind = record { each = EachStatement; none = no_statements; then = statement_then }

-- a statement; without reinit it is an initial equation
abbrev pub IsStatement : ℕ → Bool → ℕ → List Symbol → List Symbol → StatementTree → Type 0
IsStatement limit may_reinit = IsItem limit statement_kind (IsBareStatement limit may_reinit)

-- a branch of a clause
abbrev pub branch : Condition → List StatementTree → BranchTree
branch c body = record { condition = c; body = body }

-- the branches of a clause after its first word, up to its end
pub data AreBranches (limit d : ℕ) : List Symbol → List Symbol → List BranchTree → Type 0 where
  last_branch : {i j k l : ℕ} {c : Condition} {body : List StatementTree} {ts us rest : List Symbol} → IsCondition limit d ts (word words.Then i ∷ us) c → Listed (IsStatement limit true d) us (word words.End j ∷ word words.When k ∷ mark marks.Semicolon l ∷ rest) body →
      AreBranches limit d ts rest (branch c body ∷ [])
  branch_then : {i j : ℕ} {c : Condition} {body : List StatementTree} {bs : List BranchTree} {ts us vs rest : List Symbol} → IsCondition limit d ts (word words.Then i ∷ us) c → Listed (IsStatement limit true d) us (word words.Elsewhen j ∷ vs) body → AreBranches limit d vs rest bs →
      AreBranches limit d ts rest (branch c body ∷ bs)

-- a clause that is not a loop
pub data IsBareClause (limit : ℕ) : ℕ → List Symbol → List Symbol → ClauseTree → Type 0 where
  when : {d h : ℕ} {bs : List BranchTree} {ts rest : List Symbol} → d < limit → AreBranches limit (suc d) ts rest bs → IsBareClause limit d (word words.When h ∷ ts) rest (Branches bs)

abbrev pub clause_kind : Kind ClauseTree ClauseTrees
clause_kind = record { each = EachClause; none = no_clauses; then = clause_then }

-- a clause
abbrev pub IsClause : ℕ → ℕ → List Symbol → List Symbol → ClauseTree → Type 0
IsClause limit = IsItem limit clause_kind (IsBareClause limit)
