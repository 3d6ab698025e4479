-- Constant folding in loops: copies of loops with equal results in every round.
use Rattle.std.specs.Prelude.{◌≡◌, ℕ, Bool, List, Some, None, Result, Ok}
use Rattle.mu_num.specs.Fraction.{Fraction}
use Rattle.mu_tree.specs.Expression.{Expression, Factors, Reference, Terms}
use Rattle.mu_tree.specs.ModelTree.{EquationTree, EquationTrees, StatementTree, StatementTrees}
use Rattle.mu_tree.specs.ModelTree.{BranchTree, ClauseTree, ClauseTrees}
use Rattle.mu_unroll.specs.declared.unroll_fault.UnrollErr.{UnrollErr}
use Rattle.mu_unroll.specs.declared.environment.NameDenotation.{NameDenotation}
use Rattle.mu_unroll.specs.declared.environment.LoopVar.{LoopVar}
use Rattle.mu_unroll.specs.ConstantValues.{constant_value}
use Rattle.mu_unroll.specs.Counting.{factor_nodes, node_count, term_nodes}
use Rattle.mu_unroll.specs.Flattening.{constants_in, flattened, flattened_factors, flattened_terms}
use Rattle.mu_unroll.specs.Flattening.{found, place_of}
use Rattle.mu_unroll.specs.VariablePlaces.{constant_of, loop_value, meant_in}
use Rattle.mu_unroll.specs.Unrolling.{Progress, unrolled_branch, unrolled_branches, unrolled_clause}
use Rattle.mu_unroll.specs.Unrolling.{unrolled_clauses, unrolled_equation, unrolled_equations}
use Rattle.mu_unroll.specs.Unrolling.{unrolled_start, unrolled_starts, unrolled_statement}
use Rattle.mu_unroll.specs.Unrolling.{unrolled_statements}

-- no loop variable hides a declared constant
abbrev pub HidesNoConstant : (List ℕ → NameDenotation) → List LoopVar → Type 0
HidesNoConstant declared loops =
    (name : List ℕ) (a : Fraction) → constant_of (declared name) ≡ Some a
    → loop_value loops name ≡ None

-- the value of the expression is a, in all loops that hide no declared constant
pub record HasConstantValue (declared : List ℕ → NameDenotation) (e : Expression) (a : Fraction)
    : Type 0 where
  pub in_loops : (loops : List LoopVar) → HidesNoConstant declared loops
      → constant_value (constants_in (meant_in loops declared)) e ≡ Ok a

-- two constant expressions have the same value or fault, in all loops that hide no declared
-- constant
pub record IsSameConstant (declared : List ℕ → NameDenotation) (e f : Expression) : Type 0 where
  pub in_loops : (loops : List LoopVar) → HidesNoConstant declared loops
      → constant_value (constants_in (meant_in loops declared)) e
      ≡ constant_value (constants_in (meant_in loops declared)) f

-- two references have the same result, in all loops that hide no declared constant
pub record IsSameReference (declared : List ℕ → NameDenotation) (r s : Reference) : Type 0 where
  pub in_loops : (loops : List LoopVar) → HidesNoConstant declared loops
      → found (meant_in loops declared) r ≡ found (meant_in loops declared) s
  pub place : place_of r ≡ place_of s

-- two parts of expressions have the same flat part or fault, and equally many nodes, in all loops
-- that hide no declared constant
pub record IsSameFlat {P F : Type 0}
    (flat : Bool → (List ℕ → NameDenotation) → P → Result F UnrollErr) (count : P → ℕ)
    (declared : List ℕ → NameDenotation) (p q : P) : Type 0 where
  pub in_loops : (loops : List LoopVar) → HidesNoConstant declared loops → (in_clause : Bool)
      → flat in_clause (meant_in loops declared) p ≡ flat in_clause (meant_in loops declared) q
  pub nodes : count p ≡ count q

-- this holds of two expressions, of the terms of two sums, and of the factors of two products
abbrev pub IsSameExpression : (List ℕ → NameDenotation) → Expression → Expression → Type 0
IsSameExpression = IsSameFlat flattened node_count

abbrev pub IsSameTerms : (List ℕ → NameDenotation) → Terms → Terms → Type 0
IsSameTerms = IsSameFlat flattened_terms term_nodes

abbrev pub IsSameFactors : (List ℕ → NameDenotation) → Factors → Factors → Type 0
IsSameFactors = IsSameFlat flattened_factors factor_nodes

-- two steps have the same result, in all loops that hide no declared constant
pub record IsSameStep {X : Type 0} (declared : List ℕ → NameDenotation)
    (f g : List LoopVar → Progress X → Result (Progress X) UnrollErr) : Type 0 where
  pub in_loops : (loops : List LoopVar) → HidesNoConstant declared loops
      → (p : Progress X) → f loops p ≡ g loops p

-- two equations are unrolled to the same result, in all loops that hide no declared constant; the
-- next definitions state the same of lists and of other parts of a model
abbrev pub IsSameEquation : (List ℕ → NameDenotation) → EquationTree → EquationTree → Type 0
IsSameEquation declared x y =
    IsSameStep declared (λ loops p. unrolled_equation declared loops x p)
    (λ loops p. unrolled_equation declared loops y p)

abbrev pub IsSameEquations : (List ℕ → NameDenotation) → EquationTrees → EquationTrees → Type 0
IsSameEquations declared xs ys =
    IsSameStep declared (λ loops p. unrolled_equations declared loops xs p)
    (λ loops p. unrolled_equations declared loops ys p)

abbrev pub IsSameStart : (List ℕ → NameDenotation) → StatementTree → StatementTree → Type 0
IsSameStart declared x y =
    IsSameStep declared (λ loops p. unrolled_start declared loops x p)
    (λ loops p. unrolled_start declared loops y p)

abbrev pub IsSameStarts : (List ℕ → NameDenotation) → StatementTrees → StatementTrees → Type 0
IsSameStarts declared xs ys =
    IsSameStep declared (λ loops p. unrolled_starts declared loops xs p)
    (λ loops p. unrolled_starts declared loops ys p)

abbrev pub IsSameStatement : (List ℕ → NameDenotation) → StatementTree → StatementTree → Type 0
IsSameStatement declared x y =
    IsSameStep declared (λ loops p. unrolled_statement declared loops x p)
    (λ loops p. unrolled_statement declared loops y p)

abbrev pub IsSameStatements : (List ℕ → NameDenotation) → StatementTrees → StatementTrees → Type 0
IsSameStatements declared xs ys =
    IsSameStep declared (λ loops p. unrolled_statements declared loops xs p)
    (λ loops p. unrolled_statements declared loops ys p)

abbrev pub IsSameBranch : (List ℕ → NameDenotation) → BranchTree → BranchTree → Type 0
IsSameBranch declared x y =
    IsSameStep declared (λ loops p. unrolled_branch declared loops x p)
    (λ loops p. unrolled_branch declared loops y p)

abbrev pub IsSameBranches : (List ℕ → NameDenotation) → List BranchTree → List BranchTree → Type 0
IsSameBranches declared xs ys =
    IsSameStep declared (λ loops p. unrolled_branches declared loops xs p)
    (λ loops p. unrolled_branches declared loops ys p)

abbrev pub IsSameClause : (List ℕ → NameDenotation) → ClauseTree → ClauseTree → Type 0
IsSameClause declared x y =
    IsSameStep declared (λ loops p. unrolled_clause declared loops x p)
    (λ loops p. unrolled_clause declared loops y p)

abbrev pub IsSameClauses : (List ℕ → NameDenotation) → ClauseTrees → ClauseTrees → Type 0
IsSameClauses declared xs ys =
    IsSameStep declared (λ loops p. unrolled_clauses declared loops xs p)
    (λ loops p. unrolled_clauses declared loops ys p)
