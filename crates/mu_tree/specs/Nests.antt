-- Items that occur in loops: what equations, statements and clauses have in common.
use Rattle.std.specs.Prelude.{◌≡◌, ℕ, ◌+◌, Bool, true, false, List, [], ◌∷◌, map, refl}
use Rattle.std.proofs.Common.{ap}
use Rattle.mu_tree.specs.declared.nest.Nested.{Nested}
use Rattle.mu_tree.specs.declared.nest.Nested.TheVariants as nested
use Rattle.mu_tree.specs.declared.nest.Range.{Range as OwnedRange}
use Rattle.mu_tree.specs.declared.nest.RangeRef.{RangeRef}
use Rattle.mu_tree.specs.Expression.{Expression, Reference, expression}
use Rattle.mu_tree.specs.ModelTree.{Algebraic, Assign, BranchTree, Branches, ClauseTree}
use Rattle.mu_tree.specs.ModelTree.{ClauseTrees, Derivative, EachClause, EachEquation}
use Rattle.mu_tree.specs.ModelTree.{EachStatement, EquationTree, EquationTrees, Range, Restart}
use Rattle.mu_tree.specs.ModelTree.{StatementTree, StatementTrees, clause_then, equation_then}
use Rattle.mu_tree.specs.ModelTree.{clauses_of, equations_of, no_clauses, no_equations}
use Rattle.mu_tree.specs.ModelTree.{no_statements, range, statement_then, statements_of}

mutual
  -- an item that is no loop, or a loop over items
  pub data NestTree (L : Type 0) : Type 0 where
    One : L → NestTree L
    Each : Range → NestTrees L → NestTree L

  -- a list of items
  pub data NestTrees (L : Type 0) : Type 0 where
    no_items : NestTrees L
    item_then : NestTree L → NestTrees L → NestTrees L

-- the items of a list
abbrev pub items_of : {L : Type 0} → List (NestTree L) → NestTrees L
items_of [] = no_items
items_of (x ∷ xs) = item_then x (items_of xs)

abbrev mutual
  -- the number of items and of loops
  pub item_size : {L : Type 0} → NestTree L → ℕ
  item_size (One l) = 1
  item_size (Each range body) = items_size body + 1

  pub items_size : {L : Type 0} → NestTrees L → ℕ
  items_size no_items = 0
  items_size (item_then x xs) = item_size x + items_size xs

-- the number of items and of loops in a list
abbrev pub list_size : {T Tree L : Type 0} → (T → Tree) → (Tree → NestTree L) → List T → ℕ
list_size tree item xs = items_size (items_of (map item (map tree xs)))

-- an equation that is no loop: for a derivative, or for an algebraic variable
pub record OneEquation : Type 0 where
  pub der : Bool
  pub target : Reference
  pub value : Expression

-- a statement that is no loop: a reinit, or an assignment
pub record OneStatement : Type 0 where
  pub restart : Bool
  pub target : Reference
  pub value : Expression

abbrev mutual
  -- an equation as an item
  pub equation_item : EquationTree → NestTree OneEquation
  equation_item (Derivative target e) = One (record { der = true; target = target; value = e })
  equation_item (Algebraic target e) = One (record { der = false; target = target; value = e })
  equation_item (EachEquation range body) = Each range (equation_items body)

  pub equation_items : EquationTrees → NestTrees OneEquation
  equation_items no_equations = no_items
  equation_items (equation_then e es) = item_then (equation_item e) (equation_items es)

abbrev mutual
  -- a statement as an item
  pub statement_item : StatementTree → NestTree OneStatement
  statement_item (Assign target e) = One (record { restart = false; target = target; value = e })
  statement_item (Restart target e) = One (record { restart = true; target = target; value = e })
  statement_item (EachStatement range body) = Each range (statement_items body)

  pub statement_items : StatementTrees → NestTrees OneStatement
  statement_items no_statements = no_items
  statement_items (statement_then s ss) = item_then (statement_item s) (statement_items ss)

abbrev mutual
  -- a clause as an item
  pub clause_item : ClauseTree → NestTree (List BranchTree)
  clause_item (Branches bs) = One bs
  clause_item (EachClause range body) = Each range (clause_items body)

  pub clause_items : ClauseTrees → NestTrees (List BranchTree)
  clause_items no_clauses = no_items
  clause_items (clause_then c cs) = item_then (clause_item c) (clause_items cs)

-- the head of a loop
abbrev pub owned_range : OwnedRange → Range
owned_range r = range r.var r.at (expression r.from) (expression r.to)

-- the head of a loop that is part of a tree
abbrev pub range_of : RangeRef → Range
range_of r = range r.var.now r.at (expression r.from.now) (expression r.to.now)

-- the view is the item itself if the item is no loop, and else the head and the body of the loop
abbrev pub IsView : {T Tree L : Type 0} → (T → Tree) → (Range → List Tree → Tree)
    → (Tree → NestTree L) → T → Nested T → Type 0
IsView {T} {Tree} {L} tree each item self (nested.One x) =
    (x.now ≡ self) × ((l : L) × (item (tree self) ≡ One l))
IsView tree each item self (nested.Each range body) =
    tree self ≡ each (range_of range) (map tree body.now)

-- the items of a list of trees
pub equation_items_of : (es : List EquationTree)
    → equation_items (equations_of es) ≡ items_of (map equation_item es)
equation_items_of [] = refl
equation_items_of (e ∷ es) = ap (item_then (equation_item e)) (equation_items_of es)

pub statement_items_of : (ss : List StatementTree)
    → statement_items (statements_of ss) ≡ items_of (map statement_item ss)
statement_items_of [] = refl
statement_items_of (s ∷ ss) = ap (item_then (statement_item s)) (statement_items_of ss)

pub clause_items_of : (cs : List ClauseTree)
    → clause_items (clauses_of cs) ≡ items_of (map clause_item cs)
clause_items_of [] = refl
clause_items_of (c ∷ cs) = ap (item_then (clause_item c)) (clause_items_of cs)
