-- The grammar of a whole model, a subset of Modelica 3.5.
use Rattle.std.specs.Prelude.{◌≡◌, ℕ, false, List, [], ◌∷◌, ◌++◌}
use Rattle.mu_lexer.specs.declared.token.Word.TheVariants as words
use Rattle.mu_lexer.specs.declared.token.Mark.TheVariants as marks
use Rattle.mu_tree.specs.ModelTree.{EquationTree, StatementTree, ClauseTree, Declaration, Setting, ModelTree}
use Rattle.mu_grammar.specs.Grammar.{Symbol, name, word, mark}
use Rattle.mu_grammar.specs.Lists.{Runs, MaybeString}
use Rattle.mu_grammar.specs.Skipped.{IsImported}
use Rattle.mu_grammar.specs.DeclarationGrammar.{IsDeclaration, IsAnnotation}
use Rattle.mu_grammar.specs.Bodies.{IsEquation, IsStatement, IsClause}

-- an import line or a declaration, with the declared components before and after it
pub data IsHead (limit : ℕ) : List Declaration → List Symbol → List Symbol → List Declaration → Type 0 where
  import_line : {i : ℕ} {ts rest : List Symbol} {ds : List Declaration} → IsImported ts rest → IsHead limit ds (word words.Import i ∷ ts) rest ds
  declaration : {ts rest : List Symbol} {ds es : List Declaration} → IsDeclaration limit ds ts rest es → IsHead limit ds ts rest es

-- the contents of the sections
pub record Sections : Type 0 where
  pub starts : List StatementTree
  pub equations : List EquationTree
  pub clauses : List ClauseTree

abbrev pub sections : List StatementTree → List EquationTree → List ClauseTree → Sections
sections starts equations clauses = record { starts = starts; equations = equations; clauses = clauses }

-- one more equation
pub data AddsEquation (limit : ℕ) : Sections → List Symbol → List Symbol → Sections → Type 0 where
  adds_equation : {ts rest : List Symbol} {s : Sections} {e : EquationTree} → IsEquation limit 0 ts rest e → AddsEquation limit s ts rest (sections s.starts (s.equations ++ e ∷ []) s.clauses)

-- one more clause
pub data AddsClause (limit : ℕ) : Sections → List Symbol → List Symbol → Sections → Type 0 where
  adds_clause : {ts rest : List Symbol} {s : Sections} {c : ClauseTree} → IsClause limit 0 ts rest c → AddsClause limit s ts rest (sections s.starts s.equations (s.clauses ++ c ∷ []))

-- one more initial equation
pub data AddsStart (limit : ℕ) : Sections → List Symbol → List Symbol → Sections → Type 0 where
  adds_start : {ts rest : List Symbol} {s : Sections} {v : StatementTree} → IsStatement limit false 0 ts rest v → AddsStart limit s ts rest (sections (s.starts ++ v ∷ []) s.equations s.clauses)

-- a section, with the contents of the sections before and after it
pub data IsSection (limit : ℕ) : Sections → List Symbol → List Symbol → Sections → Type 0 where
  equations : {i : ℕ} {ts rest : List Symbol} {s t : Sections} → Runs (AddsEquation limit) s ts rest t → IsSection limit s (word words.Equation i ∷ ts) rest t
  clauses : {i : ℕ} {ts rest : List Symbol} {s t : Sections} → Runs (AddsClause limit) s ts rest t → IsSection limit s (word words.Algorithm i ∷ ts) rest t
  starts : {i j : ℕ} {ts rest : List Symbol} {s t : Sections} → Runs (AddsStart limit) s ts rest t → IsSection limit s (word words.Initial i ∷ word words.Algorithm j ∷ ts) rest t

-- the model with these parts
abbrev pub model_of : List ℕ → List ℕ → ℕ → List Declaration → Sections → List Setting → ModelTree
model_of n end_name end_at ds s ss = record { name = n; end_name = end_name; end_at = end_at; decls = ds; starts = s.starts; equations = s.equations; clauses = s.clauses; settings = ss }

-- the tokens parse as the model, nested at most limit levels deep
pub data SpellsModel (limit : ℕ) : List Symbol → ModelTree → Type 0 where
  model : {i h j at k : ℕ} {n end_name : List ℕ} {ts us vs ws : List Symbol} {ds : List Declaration} {s : Sections} {ss : List Setting} →
      MaybeString ts us → Runs (IsHead limit) [] us vs ds → Runs (IsSection limit) (sections [] [] []) vs ws s → IsAnnotation limit ws (word words.End j ∷ name end_name at ∷ mark marks.Semicolon k ∷ []) ss →
      SpellsModel limit (word words.Model i ∷ name n h ∷ ts) (model_of n end_name at ds s ss)

-- a token list parses as at most one model (the grammar is unambiguous)
abbrev pub GrammarIsUnambiguous : Type 0
GrammarIsUnambiguous = (limit : ℕ) (ts : List Symbol) (m n : ModelTree) → SpellsModel limit ts m → SpellsModel limit ts n → m ≡ n
