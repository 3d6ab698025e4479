-- Without name errors, each name in an expression denotes a value or a variable.
use Rattle.std.specs.Prelude.{◌≡◌, Bool, true, false, ℕ, ℤ, List, [], ◌∷◌, IfOk, IsSome, Some}
use Rattle.mu_names.specs.Roles.{scope_of}
use Rattle.mu_tree.specs.Expression.{Expression, Number, Variable, Now, Previous, Sum, Product}
use Rattle.mu_tree.specs.Expression.{Power, Reference, Whole, Element, Terms, no_terms, term}
use Rattle.mu_tree.specs.Expression.{Factors, no_factors, factor}
use Rattle.mu_tree.specs.ModelTree.{Range, EquationTree, Derivative, Algebraic, EachEquation}
use Rattle.mu_tree.specs.ModelTree.{EquationTrees, no_equations, equation_then, StatementTree}
use Rattle.mu_tree.specs.ModelTree.{Assign, Restart, EachStatement, StatementTrees, no_statements}
use Rattle.mu_tree.specs.ModelTree.{statement_then, BranchTree, ClauseTree, Branches, EachClause}
use Rattle.mu_tree.specs.ModelTree.{ClauseTrees, no_clauses, clause_then, equations_of}
use Rattle.mu_tree.specs.ModelTree.{statements_of, clauses_of, ModelTree}
use Rattle.mu_tree.specs.declared.flat.FlatRole.TheVariants as flat_role
use Rattle.mu_unroll.specs.Flattening.{constants_in, found, number_of_kind}
use Rattle.mu_unroll.specs.VariablePlaces.{meant_in}
use Rattle.mu_unroll.specs.Unrolling.{declared_in, inside}
use Rattle.mu_unroll.specs.declared.environment.ResolvedReference.{ResolvedReference}
use Rattle.mu_unroll.specs.declared.environment.ResolvedReference.TheVariants.{Value, Numbered}
use Rattle.mu_unroll.specs.declared.environment.ResolvedReference.TheVariants.{Unfound}
use Rattle.mu_unroll.specs.declared.environment.LoopVar.{LoopVar}
use Rattle.mu_unroll.specs.declared.environment.NameDenotation.{NameDenotation}
use Rattle.qss_compile.specs.Phases.{AreFaultless}

abbrev mutual
  -- a constant expression uses only the values of constants and loop variables
  pub TakesConstants : (List ℕ → NameDenotation) → Expression → Type 0
  TakesConstants known (Number digits at) = Unit {0}
  TakesConstants known (Variable r) = IsConstantName known r
  TakesConstants known (Now at) = ⊥
  TakesConstants known (Previous r) = ⊥
  TakesConstants known (Sum ts) = TermsTakeConstants known ts
  TakesConstants known (Product fs) = FactorsTakeConstants known fs
  TakesConstants known (Power base exp at) = TakesConstants known base

  pub IsConstantName : (List ℕ → NameDenotation) → Reference → Type 0
  IsConstantName known (Whole name at) = IsSome (constants_in known name)
  IsConstantName known (Element name index at) = ⊥

  pub TermsTakeConstants : (List ℕ → NameDenotation) → Terms → Type 0
  TermsTakeConstants known no_terms = Unit {0}
  TermsTakeConstants known (term minus at e rest) = TakesConstants known e × TermsTakeConstants known rest

  pub FactorsTakeConstants : (List ℕ → NameDenotation) → Factors → Type 0
  FactorsTakeConstants known no_factors = Unit {0}
  FactorsTakeConstants known (factor divide at e rest) = TakesConstants known e × FactorsTakeConstants known rest

-- an index is a constant expression
abbrev pub HasConstantIndex : (List ℕ → NameDenotation) → Reference → Type 0
HasConstantIndex known (Whole name at) = Unit {0}
HasConstantIndex known (Element name index at) = TakesConstants known index

-- the name denotes a value or a variable
abbrev pub IsThere : ResolvedReference → Type 0
IsThere (Value a) = Unit {0}
IsThere (Numbered kind v) = Unit {0}
IsThere Unfound = ⊥

-- the name denotes a discrete variable
abbrev pub IsDiscrete : ResolvedReference → Type 0
IsDiscrete t = (v : ℕ) × (number_of_kind flat_role.Discrete t ≡ Some v)

abbrev mutual
  -- Each name in an expression denotes a value or a variable. A name in `pre`, only in clauses,
  -- denotes a discrete variable.
  pub TakesNames : (in_clause : Bool) → (List ℕ → NameDenotation) → Expression → Type 0
  TakesNames in_clause known (Number digits at) = Unit {0}
  TakesNames in_clause known (Variable r) = IfOk (found known r) IsThere × HasConstantIndex known r
  TakesNames in_clause known (Now at) = Unit {0}
  TakesNames in_clause known (Previous r) = (in_clause ≡ true) × IfOk (found known r) IsDiscrete × HasConstantIndex known r
  TakesNames in_clause known (Sum ts) = TermsTakeNames in_clause known ts
  TakesNames in_clause known (Product fs) = FactorsTakeNames in_clause known fs
  TakesNames in_clause known (Power base exp at) = TakesNames in_clause known base

  pub TermsTakeNames : (in_clause : Bool) → (List ℕ → NameDenotation) → Terms → Type 0
  TermsTakeNames in_clause known no_terms = Unit {0}
  TermsTakeNames in_clause known (term minus at e rest) = TakesNames in_clause known e × TermsTakeNames in_clause known rest

  pub FactorsTakeNames : (in_clause : Bool) → (List ℕ → NameDenotation) → Factors → Type 0
  FactorsTakeNames in_clause known no_factors = Unit {0}
  FactorsTakeNames in_clause known (factor divide at e rest) = TakesNames in_clause known e × FactorsTakeNames in_clause known rest

-- the left side and the right side of an equation or a statement, in loops
abbrev pub SidesTakeNames : (in_clause : Bool) → (List ℕ → NameDenotation) → Reference → Expression → Type 0
SidesTakeNames in_clause known target e = HasConstantIndex known target × TakesNames in_clause known e

-- the bounds of a loop are constant expressions
abbrev pub BoundsAreConstant : (List ℕ → NameDenotation) → Range → Type 0
BoundsAreConstant known range = TakesConstants known range.from × TakesConstants known range.to

abbrev mutual
  -- the expressions of an equation, for all values of the enclosing loop variables
  pub EquationTakesNames : (List ℕ → NameDenotation) → List LoopVar → EquationTree → Type 0
  EquationTakesNames declared loops (Derivative target e) = SidesTakeNames false (meant_in loops declared) target e
  EquationTakesNames declared loops (Algebraic target e) = SidesTakeNames false (meant_in loops declared) target e
  EquationTakesNames declared loops (EachEquation range body) =
      BoundsAreConstant (meant_in loops declared) range × ((i : ℤ) → EquationsTakeNames declared (inside loops range.var i) body)

  pub EquationsTakeNames : (List ℕ → NameDenotation) → List LoopVar → EquationTrees → Type 0
  EquationsTakeNames declared loops no_equations = Unit {0}
  EquationsTakeNames declared loops (equation_then e es) = EquationTakesNames declared loops e × EquationsTakeNames declared loops es

abbrev mutual
  -- the expressions of a statement of a clause
  pub StatementTakesNames : (List ℕ → NameDenotation) → List LoopVar → StatementTree → Type 0
  StatementTakesNames declared loops (Assign target e) = SidesTakeNames true (meant_in loops declared) target e
  StatementTakesNames declared loops (Restart target e) = SidesTakeNames true (meant_in loops declared) target e
  StatementTakesNames declared loops (EachStatement range body) =
      BoundsAreConstant (meant_in loops declared) range × ((i : ℤ) → StatementsTakeNames declared (inside loops range.var i) body)

  pub StatementsTakeNames : (List ℕ → NameDenotation) → List LoopVar → StatementTrees → Type 0
  StatementsTakeNames declared loops no_statements = Unit {0}
  StatementsTakeNames declared loops (statement_then s ss) = StatementTakesNames declared loops s × StatementsTakeNames declared loops ss

-- the expressions of a branch: its condition and its statements
abbrev pub BranchTakesNames : (List ℕ → NameDenotation) → List LoopVar → BranchTree → Type 0
BranchTakesNames declared loops b =
    TakesNames true (meant_in loops declared) b.condition.left × TakesNames true (meant_in loops declared) b.condition.right × StatementsTakeNames declared loops (statements_of b.body)

abbrev pub BranchesTakeNames : (List ℕ → NameDenotation) → List LoopVar → List BranchTree → Type 0
BranchesTakeNames declared loops [] = Unit {0}
BranchesTakeNames declared loops (b ∷ bs) = BranchTakesNames declared loops b × BranchesTakeNames declared loops bs

abbrev mutual
  pub ClauseTakesNames : (List ℕ → NameDenotation) → List LoopVar → ClauseTree → Type 0
  ClauseTakesNames declared loops (Branches bs) = BranchesTakeNames declared loops bs
  ClauseTakesNames declared loops (EachClause range body) =
      BoundsAreConstant (meant_in loops declared) range × ((i : ℤ) → ClausesTakeNames declared (inside loops range.var i) body)

  pub ClausesTakeNames : (List ℕ → NameDenotation) → List LoopVar → ClauseTrees → Type 0
  ClausesTakeNames declared loops no_clauses = Unit {0}
  ClausesTakeNames declared loops (clause_then c cs) = ClauseTakesNames declared loops c × ClausesTakeNames declared loops cs

abbrev mutual
  -- an assignment of a start value; its right side is a constant expression
  pub StartTakesConstants : (List ℕ → NameDenotation) → List LoopVar → StatementTree → Type 0
  StartTakesConstants declared loops (Assign target e) = HasConstantIndex (meant_in loops declared) target × TakesConstants (meant_in loops declared) e
  StartTakesConstants declared loops (Restart target e) = Unit {0}
  StartTakesConstants declared loops (EachStatement range body) =
      BoundsAreConstant (meant_in loops declared) range × ((i : ℤ) → StartsTakeConstants declared (inside loops range.var i) body)

  pub StartsTakeConstants : (List ℕ → NameDenotation) → List LoopVar → StatementTrees → Type 0
  StartsTakeConstants declared loops no_statements = Unit {0}
  StartsTakeConstants declared loops (statement_then s ss) = StartTakesConstants declared loops s × StartsTakeConstants declared loops ss

-- all names in the expressions of a model
pub record AreNamesTaken (tree : ModelTree) : Type 0 where
  pub equations : EquationsTakeNames (declared_in (scope_of tree).known) [] (equations_of tree.equations)
  pub clauses : ClausesTakeNames (declared_in (scope_of tree).known) [] (clauses_of tree.clauses)
  pub starts : StartsTakeConstants (declared_in (scope_of tree).known) [] (statements_of tree.starts)

-- the property holds for each model without name errors
abbrev pub NamesAreTaken : Type 0
NamesAreTaken = (tree : ModelTree) → AreFaultless tree → AreNamesTaken tree
