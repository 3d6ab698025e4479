-- Without name errors, each item of a model has exactly one item of the flat model.
use Rattle.std.specs.Prelude.{◌≡◌, true, false, ℕ, ℤ, List, [], ◌∷◌, IfOk, Result}
use Rattle.mu_names.specs.Roles.{scope_of}
use Rattle.mu_tree.specs.ModelTree.{EquationTree, Derivative, Algebraic, EachEquation}
use Rattle.mu_tree.specs.ModelTree.{EquationTrees, no_equations, equation_then, StatementTree}
use Rattle.mu_tree.specs.ModelTree.{Assign, Restart, EachStatement, StatementTrees, no_statements}
use Rattle.mu_tree.specs.ModelTree.{statement_then, BranchTree, ClauseTree, Branches, EachClause}
use Rattle.mu_tree.specs.ModelTree.{ClauseTrees, no_clauses, clause_then, equations_of}
use Rattle.mu_tree.specs.ModelTree.{statements_of, clauses_of, ModelTree}
use Rattle.mu_tree.specs.declared.flat.FlatRole.TheVariants as flat_role
use Rattle.mu_unroll.specs.Flattening.{found}
use Rattle.mu_unroll.specs.Listing.{the_action, the_equation}
use Rattle.mu_unroll.specs.VariablePlaces.{meant_in}
use Rattle.mu_unroll.specs.Unrolling.{assign_to, declared_in, inside, restart_of}
use Rattle.mu_unroll.specs.declared.unroll_fault.UnrollErr.{UnrollErr}
use Rattle.mu_unroll.specs.declared.environment.ResolvedReference.{ResolvedReference}
use Rattle.mu_unroll.specs.declared.environment.ResolvedReference.TheVariants.{Value, Numbered}
use Rattle.mu_unroll.specs.declared.environment.ResolvedReference.TheVariants.{Unfound}
use Rattle.mu_unroll.specs.declared.environment.LoopVar.{LoopVar}
use Rattle.mu_unroll.specs.declared.environment.NameDenotation.{NameDenotation}
use Rattle.qss_compile.specs.Phases.{AreFaultless}

-- the listing of an item has exactly one element, unless unrolling has an error
abbrev pub GivesOne : {X : Type 0} → Result (List X) UnrollErr → Type 0
GivesOne {X} r = IfOk r (λ xs. (x : X) × (xs ≡ x ∷ []))

abbrev mutual
  -- an equation has exactly one flat equation, for all values of the enclosing loop variables
  pub EquationGivesOne : (List ℕ → NameDenotation) → List LoopVar → EquationTree → Type 0
  EquationGivesOne declared loops (Derivative target e) = GivesOne (the_equation true (meant_in loops declared) target e)
  EquationGivesOne declared loops (Algebraic target e) = GivesOne (the_equation false (meant_in loops declared) target e)
  EquationGivesOne declared loops (EachEquation range body) = (i : ℤ) → EquationsGiveOne declared (inside loops range.var i) body

  pub EquationsGiveOne : (List ℕ → NameDenotation) → List LoopVar → EquationTrees → Type 0
  EquationsGiveOne declared loops no_equations = Unit {0}
  EquationsGiveOne declared loops (equation_then e es) = EquationGivesOne declared loops e × EquationsGiveOne declared loops es

abbrev mutual
  -- a statement of a clause has exactly one flat statement
  pub StatementGivesOne : (List ℕ → NameDenotation) → List LoopVar → StatementTree → Type 0
  StatementGivesOne declared loops (Assign target e) = GivesOne (the_action assign_to flat_role.Discrete (meant_in loops declared) target e)
  StatementGivesOne declared loops (Restart target e) = GivesOne (the_action restart_of flat_role.State (meant_in loops declared) target e)
  StatementGivesOne declared loops (EachStatement range body) = (i : ℤ) → StatementsGiveOne declared (inside loops range.var i) body

  pub StatementsGiveOne : (List ℕ → NameDenotation) → List LoopVar → StatementTrees → Type 0
  StatementsGiveOne declared loops no_statements = Unit {0}
  StatementsGiveOne declared loops (statement_then s ss) = StatementGivesOne declared loops s × StatementsGiveOne declared loops ss

-- each statement in the branches of a clause has exactly one flat statement
abbrev pub BranchesGiveOne : (List ℕ → NameDenotation) → List LoopVar → List BranchTree → Type 0
BranchesGiveOne declared loops [] = Unit {0}
BranchesGiveOne declared loops (b ∷ bs) = StatementsGiveOne declared loops (statements_of b.body) × BranchesGiveOne declared loops bs

abbrev mutual
  pub ClauseGivesOne : (List ℕ → NameDenotation) → List LoopVar → ClauseTree → Type 0
  ClauseGivesOne declared loops (Branches bs) = BranchesGiveOne declared loops bs
  ClauseGivesOne declared loops (EachClause range body) = (i : ℤ) → ClausesGiveOne declared (inside loops range.var i) body

  pub ClausesGiveOne : (List ℕ → NameDenotation) → List LoopVar → ClauseTrees → Type 0
  ClausesGiveOne declared loops no_clauses = Unit {0}
  ClausesGiveOne declared loops (clause_then c cs) = ClauseGivesOne declared loops c × ClausesGiveOne declared loops cs

-- a variable with a start value: a state or a discrete variable
abbrev pub IsStarted : ResolvedReference → Type 0
IsStarted (Numbered flat_role.State v) = Unit {0}
IsStarted (Numbered flat_role.Discrete v) = Unit {0}
IsStarted (Numbered flat_role.Algebraic v) = ⊥
IsStarted (Value a) = ⊥
IsStarted Unfound = ⊥

abbrev mutual
  -- the target of an assigned start value is such a variable
  pub StartIsKept : (List ℕ → NameDenotation) → List LoopVar → StatementTree → Type 0
  StartIsKept declared loops (Assign target e) = IfOk (found (meant_in loops declared) target) IsStarted
  StartIsKept declared loops (Restart target e) = Unit {0}
  StartIsKept declared loops (EachStatement range body) = (i : ℤ) → StartsAreKept declared (inside loops range.var i) body

  pub StartsAreKept : (List ℕ → NameDenotation) → List LoopVar → StatementTrees → Type 0
  StartsAreKept declared loops no_statements = Unit {0}
  StartsAreKept declared loops (statement_then s ss) = StartIsKept declared loops s × StartsAreKept declared loops ss

-- no item of a model is dropped
pub record AreItemsKept (tree : ModelTree) : Type 0 where
  pub equations : EquationsGiveOne (declared_in (scope_of tree).known) [] (equations_of tree.equations)
  pub clauses : ClausesGiveOne (declared_in (scope_of tree).known) [] (clauses_of tree.clauses)
  pub starts : StartsAreKept (declared_in (scope_of tree).known) [] (statements_of tree.starts)

-- the property holds for each model without name errors
abbrev pub ItemsAreKept : Type 0
ItemsAreKept = (tree : ModelTree) → AreFaultless tree → AreItemsKept tree
