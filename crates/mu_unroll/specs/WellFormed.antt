-- Well-formed models: exponents are at most 8, and each clause has a branch.
use Rattle.std.specs.Prelude.{◌<◌, ◌≤◌, List, length, All, ⊤}
use Rattle.mu_tree.specs.Expression.{Expression, Number, Variable, Now, Previous, Sum, Product}
use Rattle.mu_tree.specs.Expression.{Power, Terms, no_terms, term, Factors, no_factors, factor}
use Rattle.mu_tree.specs.ModelTree.{BranchTree, ClauseTree, ClauseTrees, EquationTree}
use Rattle.mu_tree.specs.ModelTree.{EquationTrees, ModelTree, StatementTree, StatementTrees}
use Rattle.mu_tree.specs.ModelTree.{clauses_of, equations_of, statements_of}
use Rattle.mu_tree.specs.Nests.{Each, NestTree, NestTrees, One, OneEquation, OneStatement}
use Rattle.mu_tree.specs.Nests.{clause_item, clause_items, equation_item, equation_items}
use Rattle.mu_tree.specs.Nests.{item_then, no_items, statement_item, statement_items}

abbrev mutual
  -- the exponents of an expression are at most 8
  pub HasSmallPowers : Expression → Type 0
  HasSmallPowers (Number digits at) = ⊤
  HasSmallPowers (Variable r) = ⊤
  HasSmallPowers (Now at) = ⊤
  HasSmallPowers (Previous r) = ⊤
  HasSmallPowers (Sum ts) = HaveSmallPowersTerms ts
  HasSmallPowers (Product fs) = HaveSmallPowersFactors fs
  HasSmallPowers (Power base exp at) = HasSmallPowers base × (exp ≤ 8)

  pub HaveSmallPowersTerms : Terms → Type 0
  HaveSmallPowersTerms no_terms = ⊤
  HaveSmallPowersTerms (term minus at e rest) = HasSmallPowers e × HaveSmallPowersTerms rest

  pub HaveSmallPowersFactors : Factors → Type 0
  HaveSmallPowersFactors no_factors = ⊤
  HaveSmallPowersFactors (factor divide at e rest) = HasSmallPowers e × HaveSmallPowersFactors rest

abbrev mutual
  -- P holds for each item that is no loop, including those in loops
  pub ItemHas : {L : Type 0} → (L → Type 0) → NestTree L → Type 0
  ItemHas P (One l) = P l
  ItemHas P (Each range body) = ItemsHave P body

  pub ItemsHave : {L : Type 0} → (L → Type 0) → NestTrees L → Type 0
  ItemsHave P no_items = ⊤
  ItemsHave P (item_then x xs) = ItemHas P x × ItemsHave P xs

-- P holds for the right side of each equation, including loops
abbrev pub EquationHas : (Expression → Type 0) → EquationTree → Type 0
EquationHas P e = ItemHas (λ (l : OneEquation). P l.value) (equation_item e)

abbrev pub EquationsHave : (Expression → Type 0) → EquationTrees → Type 0
EquationsHave P es = ItemsHave (λ (l : OneEquation). P l.value) (equation_items es)

-- P holds for the right side of each statement, including loops
abbrev pub StatementHas : (Expression → Type 0) → StatementTree → Type 0
StatementHas P s = ItemHas (λ (l : OneStatement). P l.value) (statement_item s)

abbrev pub StatementsHave : (Expression → Type 0) → StatementTrees → Type 0
StatementsHave P ss = ItemsHave (λ (l : OneStatement). P l.value) (statement_items ss)

-- P holds for both sides of the condition and for the right sides of the statements
abbrev pub BranchHas : (Expression → Type 0) → BranchTree → Type 0
BranchHas P b = P b.condition.left × P b.condition.right × StatementsHave P (statements_of b.body)

-- there is a branch, and P holds for the expressions of the branches
abbrev pub BranchesHave : (Expression → Type 0) → List BranchTree → Type 0
BranchesHave P bs = (0 < length bs) × All (BranchHas P) bs

-- each clause has a branch, and P holds for the expressions of its branches
abbrev pub ClauseHas : (Expression → Type 0) → ClauseTree → Type 0
ClauseHas P c = ItemHas (BranchesHave P) (clause_item c)

abbrev pub ClausesHave : (Expression → Type 0) → ClauseTrees → Type 0
ClausesHave P cs = ItemsHave (BranchesHave P) (clause_items cs)

-- the exponents are at most 8, and each clause has a branch; every parsed model is well-formed
pub record IsWellFormed (m : ModelTree) : Type 0 where
  pub equations : EquationsHave HasSmallPowers (equations_of m.equations)
  pub clauses : ClausesHave HasSmallPowers (clauses_of m.clauses)
