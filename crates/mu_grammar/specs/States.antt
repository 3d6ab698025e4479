-- The states of the model machine: the parts parsed so far and the tokens that may follow.
use Rattle.std.specs.Prelude.{ℕ, suc, Bool, List, [], ◌∷◌}
use Rattle.mu_tree.specs.declared.tree.Prefix.{Prefix}
use Rattle.mu_tree.specs.declared.tree.SettingName.{SettingName}
use Rattle.mu_tree.specs.Expression.{Expression, Reference}
use Rattle.mu_tree.specs.ModelTree.{Range, EquationTree, StatementTree, ClauseTree, BranchTree, Declaration, Setting, ModelTree}
use Rattle.mu_grammar.specs.declared.symbol.Fixed.{Fixed}
use Rattle.mu_grammar.specs.declared.symbol.Bracket.{Bracket}
use Rattle.mu_grammar.specs.SumMachine.{Position, Frame, at_sum}
use Rattle.mu_grammar.specs.ConditionMachine.{Stage}
use Rattle.mu_grammar.specs.DeclarationGrammar.{Settled}
use Rattle.mu_grammar.specs.ModelGrammar.{Sections}

-- a model whose name, components and sections so far are parsed
pub record Draft : Type 0 where
  pub name : List ℕ
  pub decls : List Declaration
  pub held : Sections

-- a component whose declaration is being parsed
pub record Component : Type 0 where
  pub draft : Draft
  pub declared : Declaration

-- an open loop with the items parsed so far
pub record Loop (T : Type 0) : Type 0 where
  pub range : Range
  pub items : List T

-- an open clause in these loops, with the branches parsed so far
pub record OpenWhen : Type 0 where
  pub draft : Draft
  pub loops : List (Loop ClauseTree)
  pub branches : List BranchTree

-- an open branch with the statements parsed so far
pub record OpenBranch : Type 0 where
  pub clause : OpenWhen
  pub branch : BranchTree

-- The place of equations, clauses or statements: a section or a branch, and the open loops,
-- innermost first.
pub data Body : Type 0 where
  in_equations : Draft → List (Loop EquationTree) → Body
  in_starts : Draft → List (Loop StatementTree) → Body
  in_clauses : Draft → List (Loop ClauseTree) → Body
  in_branch : OpenBranch → List (Loop StatementTree) → Body

-- the role and place of a reference outside expressions
pub data Aim : Type 0 where
  plain : Draft → List (Loop EquationTree) → Aim
  derivative : Draft → List (Loop EquationTree) → Aim
  initial : Draft → List (Loop StatementTree) → Aim
  assigned : OpenBranch → List (Loop StatementTree) → Aim
  restarted : OpenBranch → List (Loop StatementTree) → Aim

-- the owner of the annotation that contains an experiment
pub data Owner : Type 0 where
  of_component : Component → Owner
  of_model : Draft → Owner

-- a list of items in round brackets, with the results so far
pub data Place : Type 0 where
  modifications : Component → Place
  own_arguments : Component → Place
  arguments : Draft → Settled → Place
  settings : Owner → List Setting → Place

-- the role of an expression
pub data Waiting : Type 0 where
  for_size : Component → Waiting
  for_start : Component → Waiting
  for_value : Component → Waiting
  for_quantum : Component → Waiting
  for_setting : Owner → List Setting → SettingName → ℕ → Waiting
  for_index : List ℕ → ℕ → Aim → Waiting
  for_side : Aim → Reference → Waiting
  for_first : Body → List ℕ → ℕ → Waiting
  for_last : Body → List ℕ → ℕ → Expression → Waiting

-- the states, named by the tokens that may follow
pub data State : Type 0 where
  expects : Fixed → State → State
  in_sum : Waiting → Position → List Frame → State
  in_condition : OpenWhen → Stage → State
  at_model_name : State
  behind_title : Draft → State
  at_heads : Draft → State
  importing : Draft → State
  at_type : Draft → Prefix → State
  at_component : Draft → Prefix → Bool → State
  behind_name : Component → State
  behind_size : Component → State
  behind_modifications : Component → State
  behind_string : Component → State
  behind_annotation : Component → State
  at_first_item : Place → State
  at_item : Place → State
  at_each : Component → State
  behind_item : Place → State
  skipping : Place → List Bracket → State
  at_body : Body → State
  at_variable : Body → State
  at_target : Aim → State
  behind_target_name : List ℕ → ℕ → Aim → State
  behind_target : Reference → Aim → State
  at_end_name : Draft → List Setting → State
  at_last : ModelTree → State

-- an expression begins
abbrev pub begin : Waiting → State
begin w = in_sum w at_sum []

-- the nesting depth inside the entries of a stack, starting from depth d
abbrev pub level : {A : Type 0} → ℕ → List A → ℕ
level d [] = d
level d (x ∷ xs) = suc (level d xs)

-- the nesting depth in a branch
abbrev pub branch_level : OpenBranch → ℕ
branch_level b = suc (level 0 b.clause.loops)

-- the nesting depth of a body's items
abbrev pub body_level : Body → ℕ
body_level (in_equations d ls) = level 0 ls
body_level (in_starts d ls) = level 0 ls
body_level (in_clauses d ls) = level 0 ls
body_level (in_branch b ls) = level (branch_level b) ls

-- the nesting depth of a reference
abbrev pub aim_level : Aim → ℕ
aim_level (plain d ls) = level 0 ls
aim_level (derivative d ls) = suc (level 0 ls)
aim_level (initial d ls) = level 0 ls
aim_level (assigned b ls) = level (branch_level b) ls
aim_level (restarted b ls) = suc (level (branch_level b) ls)

-- the nesting depth of the right-hand side that belongs to a reference
abbrev pub side_level : Aim → ℕ
side_level (derivative d ls) = level 0 ls
side_level a = aim_level a

-- the nesting depth in a list of items
abbrev pub place_level : Place → ℕ
place_level (settings o ss) = 2
place_level _ = 1

-- the nesting depth outside an expression
abbrev pub outside : Waiting → ℕ
outside (for_size c) = 1
outside (for_start c) = 1
outside (for_value c) = 0
outside (for_quantum c) = 1
outside (for_setting o ss which at) = 2
outside (for_index n at a) = suc (aim_level a)
outside (for_side a r) = side_level a
outside (for_first b n at) = suc (body_level b)
outside (for_last b n at e) = suc (body_level b)
