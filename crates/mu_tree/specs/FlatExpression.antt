-- Flat models as values of the logic, independent of memory.
use Rattle.std.specs.Prelude.{ℕ, Bool, List, [], ◌∷◌, map}
use Rattle.mu_num.specs.Fraction.{Fraction}
use Rattle.mu_tree.specs.declared.tree.Rel.{Rel}
use Rattle.mu_tree.specs.declared.flat.FlatRole.{FlatRole}
use Rattle.mu_tree.specs.declared.flat.FlatVar.{FlatVar}
use Rattle.mu_tree.specs.declared.flat.FlatExpr.{FlatExpr, FlatExpr-F}
use Rattle.mu_tree.specs.declared.flat.FlatExpr.TheOpen as layer
use Rattle.mu_tree.specs.declared.flat.FlatTerm.{FlatTerm, FlatTerm-F}
use Rattle.mu_tree.specs.declared.flat.FlatFactor.{FlatFactor, FlatFactor-F}
use Rattle.mu_tree.specs.declared.flat.FlatExpr.TheFolds.{fold-FlatExpr, fold-FlatTerm, fold-FlatFactor}
use Rattle.mu_tree.specs.declared.flat.FlatEquation.{FlatEquation}
use Rattle.mu_tree.specs.declared.flat.FlatStatement.{FlatStatement}
use Rattle.mu_tree.specs.declared.flat.FlatStatement.TheVariants.{FlatSet, FlatReinit}
use Rattle.mu_tree.specs.declared.flat.FlatBranch.{FlatBranch}
use Rattle.mu_tree.specs.declared.flat.FlatClause.{FlatClause}
use Rattle.mu_tree.specs.declared.flat.FlatModel.{FlatModel}

mutual
  -- an expression over numbered variables, with source offsets
  pub data FlatExpression : Type 0 where
    Constant : Fraction → ℕ → FlatExpression
    Variable : ℕ → ℕ → FlatExpression
    Previous : ℕ → ℕ → FlatExpression
    Now : ℕ → FlatExpression
    Sum : FlatTerms → FlatExpression
    Product : FlatFactors → FlatExpression
    Power : FlatExpression → ℕ → ℕ → FlatExpression

  -- the terms of a sum, each with a minus flag and its source offset
  pub data FlatTerms : Type 0 where
    no_terms : FlatTerms
    term : Bool → ℕ → FlatExpression → FlatTerms → FlatTerms

  -- the factors of a product, each with a divide flag and its source offset
  pub data FlatFactors : Type 0 where
    no_factors : FlatFactors
    factor : Bool → ℕ → FlatExpression → FlatFactors → FlatFactors

-- one term of a sum
pub record FlatSigned : Type 0 where
  pub minus : Bool
  pub at : ℕ
  pub value : FlatExpression

-- one factor of a product
pub record FlatScaled : Type 0 where
  pub divide : Bool
  pub at : ℕ
  pub value : FlatExpression

-- the terms of a list
abbrev pub flat_terms_of : List FlatSigned → FlatTerms
flat_terms_of [] = no_terms
flat_terms_of (t ∷ ts) = term t.minus t.at t.value (flat_terms_of ts)

-- the factors of a list
abbrev pub flat_factors_of : List FlatScaled → FlatFactors
flat_factors_of [] = no_factors
flat_factors_of (f ∷ fs) = factor f.divide f.at f.value (flat_factors_of fs)

-- one layer of an expression whose parts are already converted
abbrev pub flat_expression_step : FlatExpr-F FlatExpression FlatScaled FlatSigned → FlatExpression
flat_expression_step (layer.Const value at) = Constant value at
flat_expression_step (layer.Var var at) = Variable var at
flat_expression_step (layer.Pre var at) = Previous var at
flat_expression_step (layer.Time at) = Now at
flat_expression_step (layer.Sum v) = Sum (flat_terms_of v.items)
flat_expression_step (layer.Product v) = Product (flat_factors_of v.items)
flat_expression_step (layer.Pow base exp at) = Power base.value exp at

abbrev pub flat_scaled_step : FlatFactor-F FlatExpression FlatScaled FlatSigned → FlatScaled
flat_scaled_step f = record { divide = f.divide; at = f.at; value = f.value }

abbrev pub flat_signed_step : FlatTerm-F FlatExpression FlatScaled FlatSigned → FlatSigned
flat_signed_step t = record { minus = t.minus; at = t.at; value = t.value }

-- the logical value of an expression
abbrev pub flat_expression : FlatExpr → FlatExpression
flat_expression = fold-FlatExpr FlatExpression FlatScaled FlatSigned flat_expression_step flat_scaled_step flat_signed_step

-- the logical value of a term
abbrev pub flat_signed : FlatTerm → FlatSigned
flat_signed = fold-FlatTerm FlatExpression FlatScaled FlatSigned flat_expression_step flat_scaled_step flat_signed_step

-- the logical value of a factor
abbrev pub flat_scaled : FlatFactor → FlatScaled
flat_scaled = fold-FlatFactor FlatExpression FlatScaled FlatSigned flat_expression_step flat_scaled_step flat_signed_step

-- a variable
pub record FlatVariable : Type 0 where
  pub name : List ℕ
  pub role : FlatRole
  pub start : Fraction
  pub quantum : Fraction

-- an equation: its target variable or the derivative of that variable, and its right side
pub record FlatEquationTree : Type 0 where
  pub der : Bool
  pub target : ℕ
  pub value : FlatExpression

-- an assignment or a reinit
pub data FlatAction : Type 0 where
  Assign : ℕ → FlatExpression → FlatAction
  Restart : ℕ → FlatExpression → FlatAction

-- a branch: a condition with the source offset of its operator, and its statements
pub record FlatBranchTree : Type 0 where
  pub left : FlatExpression
  pub rel : Rel
  pub right : FlatExpression
  pub at : ℕ
  pub body : List FlatAction

-- a flat model
pub record FlatModelTree : Type 0 where
  pub vars : List FlatVariable
  pub equations : List FlatEquationTree
  pub clauses : List (List FlatBranchTree)

-- the logical value of a variable
abbrev pub flat_variable : FlatVar → FlatVariable
flat_variable v = record { name = v.name; role = v.role; start = v.start; quantum = v.quantum }

-- the logical value of an equation
abbrev pub flat_equation : FlatEquation → FlatEquationTree
flat_equation e = record { der = e.der; target = e.target; value = flat_expression e.value }

-- the logical value of a statement
abbrev pub flat_action : FlatStatement → FlatAction
flat_action (FlatSet var value) = Assign var (flat_expression value)
flat_action (FlatReinit var value) = Restart var (flat_expression value)

-- the logical value of a branch
abbrev pub flat_branch : FlatBranch → FlatBranchTree
flat_branch b = record { left = flat_expression b.left; rel = b.rel; right = flat_expression b.right; at = b.at; body = map flat_action b.body.items }

-- the logical value of a clause
abbrev pub flat_clause : FlatClause → List FlatBranchTree
flat_clause c = map flat_branch c.branches.items

-- the logical value of a flat model
abbrev pub flat_model : FlatModel → FlatModelTree
flat_model m = record { vars = map flat_variable m.vars.items; equations = map flat_equation m.equations.items; clauses = map flat_clause m.clauses.items }
