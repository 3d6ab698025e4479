-- Lists of equations, statements and clauses are unrolled in order.
use Rattle.mu_unroll.proofs.Common
use Common.{[], ℕ, ◌∙◌, ◌≡◌, ap, bind_result, clause_once, equation_once, FlatAction}
use Common.{FlatBranchTree, FlatEquationTree, FlatModelTree, FlatVariable, in_order, IsFault}
use Common.{IsSameStatements, IsSameStep, List, LoopVar, map, model, NameDenotation, NestTree}
use Common.{NestTrees, no_counts, Ok, Progress, progress, Result, start_once, Statement, statement}
use Common.{statement_once, statements_of, Step, sym, unrolled_item, unrolled_items}
use Common.{unrolled_statement, unrolled_statements, unrolled_with, UnrollErr}
use Rattle.mu_tree.specs.Nests.{statement_item, statement_items_of, clause_item, clause_items_of}
use Rattle.mu_tree.specs.Nests.{equation_item, equation_items_of, items_of}
use Rattle.mu_unroll.specs.Unrolling.{unrolled_clause, unrolled_equation, unrolled_start}
use Rattle.mu_tree.specs.ModelTree.{clause, equation}
use Rattle.mu_tree.specs.declared.tree.Model.{Model}
use Rattle.mu_unroll.specs.ListUnrolling.{items_in_order}
use Rattle.mu_unroll.proofs.Faulty.{after, fault_after, fault_same, fault_then}
use Rattle.mu_unroll.proofs.Folding.{bind_both}

-- items whose trees are those of a list
ordered : {T Tree L X : Type 0} (one : L → Step X) (tree : T → Tree) (item : Tree → NestTree L)
    (xs : List T) (trees : NestTrees L) (declared : List ℕ → NameDenotation)
    (loops : List LoopVar) (p : Progress X) → trees ≡ items_of (map item (map tree xs))
    → in_order (λ x. unrolled_item one (item (tree x))) xs declared loops p
    ≡ unrolled_items one trees declared loops p
ordered {T} {Tree} {L} {X} one tree item xs trees declared loops p is =
    sym (items_in_order one tree item xs declared loops p)
    ∙ ap (λ ts. unrolled_items one ts declared loops p) (sym is)

pub statements_in_order : (xs : List Statement) (declared : List ℕ → NameDenotation)
    (loops : List LoopVar) (p : Progress FlatAction)
    → in_order (λ x d ls q. unrolled_statement d ls (statement x) q) xs declared loops p
    ≡ unrolled_statements declared loops (statements_of (map statement xs)) p
statements_in_order xs declared loops p =
    ordered statement_once statement statement_item xs _ declared loops p
    (statement_items_of (map statement xs))

-- statements that are unrolled in order as others
pub statements_same : (declared : List ℕ → NameDenotation) (xs ys : List Statement)
    → IsSameStep declared
    (in_order (λ x d ls q. unrolled_statement d ls (statement x) q) xs declared)
    (in_order (λ x d ls q. unrolled_statement d ls (statement x) q) ys declared)
    → IsSameStatements declared (statements_of (map statement xs))
    (statements_of (map statement ys))
statements_same declared xs ys same = record {
  in_loops = λ loops h p.
      sym (statements_in_order xs declared loops p) ∙ same.in_loops loops h p
      ∙ statements_in_order ys declared loops p;
}

-- the steps of a model: its start assignments, its equations and its clauses
abbrev starts : (List ℕ → NameDenotation) → Model → List FlatVariable
    → Result (Progress FlatVariable) UnrollErr
starts d m vars =
    in_order (λ x e ls q. unrolled_start e ls (statement x) q) m.starts.items d []
    (progress vars no_counts)

abbrev equations : (List ℕ → NameDenotation) → Model → Progress FlatVariable
    → Result (Progress FlatEquationTree) UnrollErr
equations d m s =
    in_order (λ x e ls q. unrolled_equation e ls (equation x) q) m.equations.items d []
    (progress [] s.counts)

abbrev clauses : (List ℕ → NameDenotation) → Model → Progress FlatEquationTree
    → Result (Progress (List FlatBranchTree)) UnrollErr
clauses d m e =
    in_order (λ x g ls q. unrolled_clause g ls (clause x) q) m.clauses.items d []
    (progress [] e.counts)

abbrev made : Progress FlatVariable → Progress FlatEquationTree
    → Progress (List FlatBranchTree) → Result FlatModelTree UnrollErr
made s e c = Ok (record { vars = s.done; equations = e.done; clauses = c.done })

abbrev after_equations : (List ℕ → NameDenotation) → Model → Progress FlatVariable
    → Progress FlatEquationTree → Result FlatModelTree UnrollErr
after_equations d m s e = bind_result (clauses d m e) (λ c. made s e c)

abbrev after_starts : (List ℕ → NameDenotation) → Model → Progress FlatVariable
    → Result FlatModelTree UnrollErr
after_starts d m s = bind_result (equations d m s) (λ e. after_equations d m s e)

-- a model is unrolled in these steps
steps_of : (d : List ℕ → NameDenotation) (m : Model) (vars : List FlatVariable)
    → bind_result (starts d m vars) (λ s. after_starts d m s) ≡ unrolled_with d (model m) vars
steps_of d m vars =
    bind_both (starts d m vars) _ (λ s. after_starts d m s) _
    (ordered start_once statement statement_item m.starts.items _ d [] (progress vars no_counts)
    (statement_items_of (map statement m.starts.items))) (λ s.
    bind_both (equations d m s) _ (λ e. after_equations d m s e) _
    (ordered equation_once equation equation_item m.equations.items _ d [] (progress [] s.counts)
    (equation_items_of (map equation m.equations.items))) (λ e.
    ap (λ r. bind_result r (λ c. made s e c))
    (ordered clause_once clause clause_item m.clauses.items _ d [] (progress [] e.counts)
    (clause_items_of (map clause m.clauses.items)))))

-- a model is unrolled
pub model_unrolled : (d : List ℕ → NameDenotation) (m : Model) (vars : List FlatVariable)
    (s : Progress FlatVariable) (e : Progress FlatEquationTree)
    (c : Progress (List FlatBranchTree)) → starts d m vars ≡ Ok s → equations d m s ≡ Ok e
    → clauses d m e ≡ Ok c → unrolled_with d (model m) vars ≡ made s e c
model_unrolled d m vars s e c first second third =
    sym (steps_of d m vars)
    ∙ after (starts d m vars) (λ x. after_starts d m x) s first
    ∙ after (equations d m s) (λ x. after_equations d m s x) e second
    ∙ after (clauses d m e) (λ y. made s e y) c third

-- a start assignment, an equation or a clause has a fault
pub starts_refused : (d : List ℕ → NameDenotation) (m : Model) (vars : List FlatVariable)
    (f : UnrollErr) → IsFault (starts d m vars) f → IsFault (unrolled_with d (model m) vars) f
starts_refused d m vars f fault =
    fault_same _ _ f (steps_of d m vars)
    (fault_then (starts d m vars) (λ x. after_starts d m x) f fault)

pub equations_refused : (d : List ℕ → NameDenotation) (m : Model) (vars : List FlatVariable)
    (s : Progress FlatVariable) (f : UnrollErr) → starts d m vars ≡ Ok s
    → IsFault (equations d m s) f → IsFault (unrolled_with d (model m) vars) f
equations_refused d m vars s f first fault =
    fault_same _ _ f (steps_of d m vars)
    (fault_after (starts d m vars) (λ x. after_starts d m x) s f first
    (fault_then (equations d m s) (λ x. after_equations d m s x) f fault))

pub clauses_refused : (d : List ℕ → NameDenotation) (m : Model) (vars : List FlatVariable)
    (s : Progress FlatVariable) (e : Progress FlatEquationTree) (f : UnrollErr)
    → starts d m vars ≡ Ok s → equations d m s ≡ Ok e
    → IsFault (clauses d m e) f → IsFault (unrolled_with d (model m) vars) f
clauses_refused d m vars s e f first second fault =
    fault_same _ _ f (steps_of d m vars)
    (fault_after (starts d m vars) (λ x. after_starts d m x) s f first
    (fault_after (equations d m s) (λ x. after_equations d m s x) e f second
    (fault_then (clauses d m e) (λ y. made s e y) f fault)))
