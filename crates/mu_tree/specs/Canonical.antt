-- The canonical text of a model.
use Rattle.std.specs.Prelude.{ℕ, Bool, true, false, List, [], ◌∷◌, ◌++◌, if◌then◌else◌, Option, Some, None, codes}
use Rattle.std.specs.List.{flat_map}
use Rattle.std.specs.Fmt.{decimal}
use Rattle.std.specs.Str.{bytes_eq}
use Rattle.mu_tree.specs.declared.tree.Rel.{Rel}
use Rattle.mu_tree.specs.declared.tree.Rel.TheVariants as rels
use Rattle.mu_tree.specs.declared.tree.Prefix.{Prefix}
use Rattle.mu_tree.specs.declared.tree.Prefix.TheVariants as prefixes
use Rattle.mu_tree.specs.declared.tree.SettingName.{SettingName}
use Rattle.mu_tree.specs.declared.tree.SettingName.TheVariants as settings
use Rattle.mu_tree.specs.Expression.{Expression, Number, Variable, Now, Previous, Sum, Product, Power, Reference, Whole, Element, Terms, no_terms, term, Factors, no_factors, factor}
use Rattle.mu_tree.specs.ModelTree.{Condition, Range, EquationTree, Derivative, Algebraic, EachEquation, EquationTrees, no_equations, equation_then, StatementTree, Assign, Restart, EachStatement, StatementTrees, no_statements, statement_then, BranchTree, ClauseTree, Branches, EachClause, ClauseTrees, no_clauses, clause_then, Declaration, Setting, ModelTree, equations_of, statements_of, clauses_of}

-- the texts of a sequence of tokens
abbrev pub Texts : Type 0
Texts = List (List ℕ)

-- the texts in round brackets
abbrev pub bracketed : Texts → Texts
bracketed ts = codes "(" ∷ [] ++ ts ++ codes ")" ∷ []

-- a term of a sum needs brackets if it is a sum
abbrev pub is_sum : Expression → Bool
is_sum (Sum ts) = true
is_sum _ = false

-- a factor needs brackets if it is a sum or a product
abbrev pub is_sum_or_product : Expression → Bool
is_sum_or_product (Sum ts) = true
is_sum_or_product (Product fs) = true
is_sum_or_product _ = false

-- the base of a power needs brackets if it is a sum, a product or a power
abbrev pub is_compound : Expression → Bool
is_compound (Sum ts) = true
is_compound (Product fs) = true
is_compound (Power e n at) = true
is_compound _ = false

-- the texts, in brackets if the condition holds
abbrev pub bracketed_if : Bool → Texts → Texts
bracketed_if true ts = bracketed ts
bracketed_if false ts = ts

-- the sign of a term, without a plus before the first term
abbrev pub sign : Bool → Bool → Texts
sign first true = codes "-" ∷ []
sign true false = []
sign false false = codes "+" ∷ []

-- the operator before a factor, and none before the first one
abbrev pub factor_sign : Bool → Bool → Texts
factor_sign true divide = []
factor_sign false true = codes "/" ∷ []
factor_sign false false = codes "*" ∷ []

abbrev mutual
  -- the texts of an expression
  pub written : Expression → Texts
  written (Number digits at) = digits ∷ []
  written (Variable r) = written_reference r
  written (Now at) = codes "time" ∷ []
  written (Previous r) = codes "pre" ∷ bracketed (written_reference r)
  written (Sum ts) = written_terms ts true
  written (Product fs) = written_factors fs true
  written (Power e n at) = bracketed_if (is_compound e) (written e) ++ codes "^" ∷ decimal n ∷ []

  pub written_reference : Reference → Texts
  written_reference (Whole n at) = n ∷ []
  written_reference (Element n index at) = n ∷ codes "[" ∷ written index ++ codes "]" ∷ []

  -- the texts of terms; `first` states whether the sum begins with them
  pub written_terms : Terms → Bool → Texts
  written_terms no_terms first = []
  written_terms (term minus at e ts) first = sign first minus ++ bracketed_if (is_sum e) (written e) ++ written_terms ts false

  -- the texts of factors; `first` states whether the product begins with them
  pub written_factors : Factors → Bool → Texts
  written_factors no_factors first = []
  written_factors (factor divide at e fs) first = factor_sign first divide ++ bracketed_if (is_sum_or_product e) (written e) ++ written_factors fs false

-- the text of a comparison operator
abbrev pub relation : Rel → List ℕ
relation rels.Less = codes "<"
relation rels.LessEq = codes "<="
relation rels.Greater = codes ">"
relation rels.GreaterEq = codes ">="

-- the texts of a condition
abbrev pub written_condition : Condition → Texts
written_condition c = written c.left ++ relation c.rel ∷ written c.right

-- the head of a loop
abbrev pub written_range : Range → Texts
written_range r = codes "for" ∷ r.var ∷ codes "in" ∷ written r.from ++ codes ":" ∷ written r.to ++ codes "loop" ∷ []

-- the end of a loop
abbrev pub end_for : Texts
end_for = codes "end" ∷ codes "for" ∷ codes ";" ∷ []

abbrev mutual
  pub written_equation : EquationTree → Texts
  written_equation (Derivative r e) = codes "der" ∷ bracketed (written_reference r) ++ codes "=" ∷ written e ++ codes ";" ∷ []
  written_equation (Algebraic r e) = written_reference r ++ codes "=" ∷ written e ++ codes ";" ∷ []
  written_equation (EachEquation r body) = written_range r ++ written_equations body ++ end_for

  pub written_equations : EquationTrees → Texts
  written_equations no_equations = []
  written_equations (equation_then e es) = written_equation e ++ written_equations es

abbrev mutual
  pub written_statement : StatementTree → Texts
  written_statement (Assign r e) = written_reference r ++ codes ":=" ∷ written e ++ codes ";" ∷ []
  written_statement (Restart r e) = codes "reinit" ∷ codes "(" ∷ written_reference r ++ codes "," ∷ written e ++ codes ")" ∷ codes ";" ∷ []
  written_statement (EachStatement r body) = written_range r ++ written_statements body ++ end_for

  pub written_statements : StatementTrees → Texts
  written_statements no_statements = []
  written_statements (statement_then s ss) = written_statement s ++ written_statements ss

-- the keyword of a branch
abbrev pub branch_word : Bool → List ℕ
branch_word true = codes "when"
branch_word false = codes "elsewhen"

-- the texts of branches; `first` states whether the clause begins with them
abbrev pub written_branches : List BranchTree → Bool → Texts
written_branches [] first = []
written_branches (b ∷ bs) first = branch_word first ∷ written_condition b.condition ++ codes "then" ∷ written_statements (statements_of b.body) ++ written_branches bs false

abbrev mutual
  pub written_clause : ClauseTree → Texts
  written_clause (Branches bs) = written_branches bs true ++ codes "end" ∷ codes "when" ∷ codes ";" ∷ []
  written_clause (EachClause r body) = written_range r ++ written_clauses body ++ end_for

  pub written_clauses : ClauseTrees → Texts
  written_clauses no_clauses = []
  written_clauses (clause_then c cs) = written_clause c ++ written_clauses cs

-- the name of a type
abbrev pub type : Bool → Texts
type true = codes "Integer" ∷ []
type false = codes "Real" ∷ []

-- the prefix and the type of a declaration
abbrev pub written_kind : Prefix → Bool → Texts
written_kind prefixes.Plain whole = type whole
written_kind prefixes.Discrete whole = codes "discrete" ∷ type whole
written_kind prefixes.Parameter whole = codes "parameter" ∷ type whole
written_kind prefixes.Constant whole = codes "constant" ∷ type whole

-- an optional expression between two texts, or nothing
abbrev pub optional : Texts → Option Expression → Texts → Texts
optional before None after = []
optional before (Some e) after = before ++ written e ++ after

-- the texts of a declaration
abbrev pub written_declaration : Declaration → Texts
written_declaration d =
    written_kind d.prefix d.whole ++ d.name ∷ optional (codes "[" ∷ []) d.size (codes "]" ∷ [])
    ++ optional (codes "(" ∷ codes "start" ∷ codes "=" ∷ []) d.start (codes ")" ∷ [])
    ++ optional (codes "=" ∷ []) d.value []
    ++ optional (codes "annotation" ∷ codes "(" ∷ codes "QSS_Quantum" ∷ codes "=" ∷ []) d.quantum (codes ")" ∷ [])
    ++ codes ";" ∷ []

-- the name of a setting
abbrev pub setting_name : SettingName → List ℕ
setting_name settings.StartTime = codes "StartTime"
setting_name settings.StopTime = codes "StopTime"
setting_name settings.CoefBits = codes "QSS_CoefBits"
setting_name settings.TickBits = codes "QSS_TickBits"
setting_name settings.LevelBits = codes "QSS_LevelBits"
setting_name settings.Quantum = codes "QSS_Quantum"

-- a comma, except before the first item
abbrev pub comma : Bool → Texts
comma true = []
comma false = codes "," ∷ []

-- settings separated by commas; `first` states whether the list begins with them
abbrev pub written_settings : List Setting → Bool → Texts
written_settings [] first = []
written_settings (s ∷ ss) first = comma first ++ setting_name s.which ∷ codes "=" ∷ written s.value ++ written_settings ss false

-- keywords and the text of items, or nothing if there are no items
abbrev pub section : {A : Type 0} → Texts → List A → Texts → Texts
section words [] text = []
section words (x ∷ xs) text = words ++ text

-- the annotation with the settings, if there are any
abbrev pub written_annotation : List Setting → Texts
written_annotation [] = []
written_annotation (s ∷ ss) =
    codes "annotation" ∷ codes "(" ∷ codes "experiment" ∷ codes "(" ∷ written_settings (s ∷ ss) true ++ codes ")" ∷ codes ")" ∷ codes ";" ∷ []

-- the texts of the tokens of a model
abbrev pub written_model : ModelTree → Texts
written_model m =
    codes "model" ∷ m.name ∷ flat_map written_declaration m.decls
    ++ section (codes "initial" ∷ codes "algorithm" ∷ []) m.starts (written_statements (statements_of m.starts))
    ++ section (codes "equation" ∷ []) m.equations (written_equations (equations_of m.equations))
    ++ section (codes "algorithm" ∷ []) m.clauses (written_clauses (clauses_of m.clauses))
    ++ written_annotation m.settings
    ++ codes "end" ∷ m.end_name ∷ codes ";" ∷ []

-- the separator after a token: a line feed after a semicolon, else a space
abbrev pub byte_behind : List ℕ → ℕ
byte_behind t = if bytes_eq t (codes ";") then 10 else 32

-- the tokens, each followed by its separator
abbrev pub joined : Texts → List ℕ
joined ts = flat_map (λ t. t ++ byte_behind t ∷ []) ts

-- the canonical text of a model
abbrev pub canonical_text : ModelTree → List ℕ
canonical_text m = joined (written_model m)
