-- Lists of items that occur in loops, and the trees of loops.
use Rattle.std.proofs.Common.{◌≡◌, ◌∙◌, ◌+◌, ◌<◌, ◌≤◌, ℕ, List, [], ◌∷◌, length, drop, get_or, map}
use Rattle.std.proofs.Common.{add-one, refl, sym, ap, arith, Global}
use Rattle.std.proofs.Math.Seq.{drop-cons}
use Rattle.std.specs.declared.vec.Vec.{Vec}
use Prim.Native.Nat.{zero, suc}
use Rattle.mu_tree.specs.declared.expr.Expr.{Expr}
use Rattle.mu_tree.specs.declared.expr.Ref.{Ref}
use Rattle.mu_tree.specs.declared.tree.Branch.{Branch}
use Rattle.mu_tree.specs.declared.tree.Clause.{Clause, fold-roll-Clause}
use Rattle.mu_tree.specs.declared.tree.Equation.{Equation, fold-roll-Equation}
use Rattle.mu_tree.specs.declared.tree.Statement.{Statement, fold-roll-Statement}
use Rattle.mu_tree.specs.Expression.{expression, reference}
use Rattle.mu_tree.specs.ModelTree.{Algebraic, Assign, Branches, ClauseTree, Derivative, EachClause}
use Rattle.mu_tree.specs.ModelTree.{EachEquation, EachStatement, EquationTree, Range, Restart}
use Rattle.mu_tree.specs.ModelTree.{StatementTree, branch, clause, clause_step, clauses_of}
use Rattle.mu_tree.specs.ModelTree.{equation, equation_step, equations_of, range, statement}
use Rattle.mu_tree.specs.ModelTree.{statement_step, statements_of}
use Rattle.mu_tree.specs.Nests.{Each, NestTree, item_size, items_of, items_size, list_size}
use Rattle.mu_tree.specs.declared.tree.Clause as clauses
use Rattle.mu_tree.specs.declared.tree.Clause.TheOpen as clause_layer
use Rattle.mu_tree.specs.declared.tree.Clause.TheVariants as clause_variants
use Rattle.mu_tree.specs.declared.tree.Equation as equations
use Rattle.mu_tree.specs.declared.tree.Equation.TheOpen as equation_layer
use Rattle.mu_tree.specs.declared.tree.Equation.TheVariants as equation_variants
use Rattle.mu_tree.specs.declared.tree.Statement as statements
use Rattle.mu_tree.specs.declared.tree.Statement.TheOpen as statement_layer
use Rattle.mu_tree.specs.declared.tree.Statement.TheVariants as statement_variants

-- the tree of an item that is no loop
pub equation-Der : (target : Ref) (value : Expr)
    → equation (equations.Der target value) ≡ Derivative (reference target) (expression value)
equation-Der target value =
    ap equation (sym (equation_variants.rolls-Der target value))
    ∙ fold-roll-Equation EquationTree equation_step (equation_layer.Der target value)

pub equation-Plain : (target : Ref) (value : Expr)
    → equation (equations.Plain target value) ≡ Algebraic (reference target) (expression value)
equation-Plain target value =
    ap equation (sym (equation_variants.rolls-Plain target value))
    ∙ fold-roll-Equation EquationTree equation_step (equation_layer.Plain target value)

pub statement-Set : (target : Ref) (value : Expr)
    → statement (statements.Set target value) ≡ Assign (reference target) (expression value)
statement-Set target value =
    ap statement (sym (statement_variants.rolls-Set target value))
    ∙ fold-roll-Statement StatementTree statement_step (statement_layer.Set target value)

pub statement-Reinit : (target : Ref) (value : Expr)
    → statement (statements.Reinit target value) ≡ Restart (reference target) (expression value)
statement-Reinit target value =
    ap statement (sym (statement_variants.rolls-Reinit target value))
    ∙ fold-roll-Statement StatementTree statement_step (statement_layer.Reinit target value)

pub clause-When : (branches : Vec Branch Global)
    → clause (clauses.When branches) ≡ Branches (map branch branches.items)
clause-When branches =
    ap clause (sym (clause_variants.rolls-When branches))
    ∙ fold-roll-Clause ClauseTree clause_step (clause_layer.When branches)

-- the tree of a loop
pub equation-For : (var : List ℕ) (at : ℕ) (from to : Expr) (body : Vec Equation Global)
    → equation (equations.For var at from to body)
    ≡ EachEquation (range var at (expression from) (expression to))
    (equations_of (map equation body.items))
equation-For var at from to body =
    ap equation (sym (equation_variants.rolls-For var at from to body))
    ∙ fold-roll-Equation EquationTree equation_step (equation_layer.For var at from to body)

pub statement-For : (var : List ℕ) (at : ℕ) (from to : Expr) (body : Vec Statement Global)
    → statement (statements.For var at from to body)
    ≡ EachStatement (range var at (expression from) (expression to))
    (statements_of (map statement body.items))
statement-For var at from to body =
    ap statement (sym (statement_variants.rolls-For var at from to body))
    ∙ fold-roll-Statement StatementTree statement_step (statement_layer.For var at from to body)

pub clause-For : (var : List ℕ) (at : ℕ) (from to : Expr) (body : Vec Clause Global)
    → clause (clauses.For var at from to body)
    ≡ EachClause (range var at (expression from) (expression to))
    (clauses_of (map clause body.items))
clause-For var at from to body =
    ap clause (sym (clause_variants.rolls-For var at from to body))
    ∙ fold-roll-Clause ClauseTree clause_step (clause_layer.For var at from to body)

-- the trees from a place on
pub trees_from : {T Tree : Type 0} (tree : T → Tree) (xs : List T) (i : ℕ) (x : T)
    → i < length xs → x ≡ get_or xs i x
    → map tree (drop i xs) ≡ tree x ∷ map tree (drop (i + 1) xs)
trees_from {T} {Tree} tree xs i x h e = rw (add-one, drop-cons xs i x h, ← e) refl

-- the items from a place on are at most all items
drop_size : {T Tree L : Type 0} (tree : T → Tree) (item : Tree → NestTree L) (xs : List T) (i : ℕ)
    → list_size tree item (drop i xs) ≤ list_size tree item xs
drop_size {T} {Tree} {L} tree item xs zero = omega arith
drop_size {T} {Tree} {L} tree item [] (suc i) = omega arith
drop_size {T} {Tree} {L} tree item (x ∷ xs) (suc i) = omega (arith, drop_size tree item xs i)

-- an item of a list is at most the list
pub item_within : {T Tree L : Type 0} (tree : T → Tree) (item : Tree → NestTree L) (xs : List T)
    (i : ℕ) (x : T) → i < length xs → x ≡ get_or xs i x
    → item_size (item (tree x)) ≤ list_size tree item xs
item_within {T} {Tree} {L} tree item xs i x h e =
    omega (
      arith,
      drop_size tree item xs i,
      ap (λ ts. items_size (items_of (map item ts))) (trees_from tree xs i x h e),
    )

-- a loop has one item more than its body
pub loop_size : {T Tree L : Type 0} (tree : T → Tree) (each : Range → List Tree → Tree)
    (item : Tree → NestTree L)
    (each_item : (r : Range) (ts : List Tree) → item (each r ts) ≡ Each r (items_of (map item ts)))
    (x : T) (range : Range) (body : List T) → tree x ≡ each range (map tree body)
    → item_size (item (tree x)) ≡ list_size tree item body + 1
loop_size {T} {Tree} {L} tree each item each_item x range body is =
    ap item_size (ap item is ∙ each_item range (map tree body))

-- the body of a loop in a list has less items than the list
pub body_smaller : {T Tree L : Type 0} (tree : T → Tree) (each : Range → List Tree → Tree)
    (item : Tree → NestTree L)
    (each_item : (r : Range) (ts : List Tree) → item (each r ts) ≡ Each r (items_of (map item ts)))
    (xs body : List T) (i : ℕ) (x : T) (range : Range) → i < length xs → x ≡ get_or xs i x
    → tree x ≡ each range (map tree body) → list_size tree item body < list_size tree item xs
body_smaller {T} {Tree} {L} tree each item each_item xs body i x range h e is =
    omega (arith, item_within tree item xs i x h e, loop_size tree each item each_item x range body is)
