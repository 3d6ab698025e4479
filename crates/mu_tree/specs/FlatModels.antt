-- The invariant of flat models: size limits, variable order and roles.
use Rattle.std.specs.Prelude.{ℕ, ◌≡◌, Bool, true, false, ◌+◌, ◌^◌, ◌<◌, ◌≤◌, IsTrue, List, [], ◌∷◌, Some, length, map, sum_by, slice_get, All, ⊤}
use Rattle.std.specs.List.Sorted.{IsNonDecreasing}
use Rattle.mu_tree.specs.declared.flat.FlatRole.{FlatRole}
use Rattle.mu_tree.specs.declared.flat.FlatRole.TheVariants.{State, Discrete, Algebraic}
use Rattle.mu_tree.specs.FlatExpression.{FlatExpression, Constant, Variable, Previous, Now, Sum, Product, Power, FlatTerms, no_terms, term, FlatFactors, no_factors, factor, FlatVariable, FlatEquationTree, FlatAction, Assign, Restart, FlatBranchTree, FlatModelTree}

-- v is the number of a variable with this role
pub record HasRole (vars : List FlatVariable) (v : ℕ) (role : FlatRole) : Type 0 where
  pub variable : FlatVariable
  pub at : slice_get vars v ≡ Some variable
  pub is : variable.role ≡ role

abbrev mutual
  -- variable numbers are in range, exponents are at most 8, and `pre` occurs only where allowed and
  -- only for discrete variables
  pub IsFlatExpression : List FlatVariable → (may_be_previous : Bool) → FlatExpression → Type 0
  IsFlatExpression vars may (Constant a at) = ⊤
  IsFlatExpression vars may (Variable v at) = v < length vars
  IsFlatExpression vars may (Previous v at) = IsTrue may × HasRole vars v Discrete
  IsFlatExpression vars may (Now at) = ⊤
  IsFlatExpression vars may (Sum ts) = AreFlatTerms vars may ts
  IsFlatExpression vars may (Product fs) = AreFlatFactors vars may fs
  IsFlatExpression vars may (Power e n at) = IsFlatExpression vars may e × (n ≤ 8)

  pub AreFlatTerms : List FlatVariable → Bool → FlatTerms → Type 0
  AreFlatTerms vars may no_terms = ⊤
  AreFlatTerms vars may (term minus at e ts) = IsFlatExpression vars may e × AreFlatTerms vars may ts

  pub AreFlatFactors : List FlatVariable → Bool → FlatFactors → Type 0
  AreFlatFactors vars may no_factors = ⊤
  AreFlatFactors vars may (factor divide at e fs) = IsFlatExpression vars may e × AreFlatFactors vars may fs

abbrev mutual
  -- the number of nodes of an expression; terms and factors are not counted separately
  pub node_count : FlatExpression → ℕ
  node_count (Constant a at) = 1
  node_count (Variable v at) = 1
  node_count (Previous v at) = 1
  node_count (Now at) = 1
  node_count (Sum ts) = 1 + term_nodes ts
  node_count (Product fs) = 1 + factor_nodes fs
  node_count (Power e n at) = 1 + node_count e

  pub term_nodes : FlatTerms → ℕ
  term_nodes no_terms = 0
  term_nodes (term minus at e ts) = node_count e + term_nodes ts

  pub factor_nodes : FlatFactors → ℕ
  factor_nodes no_factors = 0
  factor_nodes (factor divide at e fs) = node_count e + factor_nodes fs

-- the role of an equation's target: a state for a derivative, else an algebraic variable
abbrev pub target_role : Bool → FlatRole
target_role true = State
target_role false = Algebraic

-- an equation for a variable of the required role, without `pre`
abbrev pub IsFlatEquation : List FlatVariable → FlatEquationTree → Type 0
IsFlatEquation vars e = HasRole vars e.target (target_role e.der) × IsFlatExpression vars false e.value

-- an assignment to a discrete variable or a reinit of a state
abbrev pub IsFlatAction : List FlatVariable → FlatAction → Type 0
IsFlatAction vars (Assign v e) = HasRole vars v Discrete × IsFlatExpression vars true e
IsFlatAction vars (Restart v e) = HasRole vars v State × IsFlatExpression vars true e

-- a branch with valid expressions and statements
abbrev pub IsFlatBranch : List FlatVariable → FlatBranchTree → Type 0
IsFlatBranch vars b = IsFlatExpression vars true b.left × IsFlatExpression vars true b.right × All (IsFlatAction vars) b.body

-- a clause with at least one branch, all of them valid
abbrev pub IsFlatClause : List FlatVariable → List FlatBranchTree → Type 0
IsFlatClause vars bs = (0 < length bs) × All (IsFlatBranch vars) bs

-- the order of variables: states, then discrete variables, then algebraic ones
abbrev pub rank : FlatRole → ℕ
rank State = 0
rank Discrete = 1
rank Algebraic = 2

-- the number of nodes of a statement
abbrev pub action_nodes : FlatAction → ℕ
action_nodes (Assign v e) = node_count e
action_nodes (Restart v e) = node_count e

-- the number of equations, conditions and statements
abbrev pub item_total : FlatModelTree → ℕ
item_total m = length m.equations + sum_by (λ bs. sum_by (λ b. 1 + length b.body) bs) m.clauses

-- the number of nodes of all expressions
abbrev pub node_total : FlatModelTree → ℕ
node_total m = sum_by (λ e. node_count e.value) m.equations + sum_by (λ bs. sum_by (λ b. node_count b.left + node_count b.right + sum_by action_nodes b.body) bs) m.clauses

-- the invariant of every flat model: its size limits, the order of its variables, and the roles of
-- the variables that it names
pub record IsFlatModel (m : FlatModelTree) : Type 0 where
  pub variables : length m.vars ≤ 2 ^ 12
  pub items : item_total m ≤ 2 ^ 14
  pub nodes : node_total m ≤ 2 ^ 20
  pub in_order : IsNonDecreasing (map (λ v. rank v.role) m.vars)
  pub equations : All (IsFlatEquation m.vars) m.equations
  pub clauses : All (IsFlatClause m.vars) m.clauses
