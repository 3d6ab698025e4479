-- The flat model without limits, as lists that are defined by recursion on the syntax tree.
use Rattle.std.specs.Prelude.{ℕ, ℤ, pos, ◌+ℤ◌, Bool, if◌then◌else◌, true, false, List, [], ◌∷◌, ◌++◌}
use Rattle.std.specs.Prelude.{Option}
use Rattle.std.specs.Prelude.{Result, Ok, option_to_list}
use Prim.Native.Nat.{zero, suc}
use Rattle.mu_num.specs.Fraction.{Fraction}
use Rattle.mu_tree.specs.declared.flat.FlatRole.{FlatRole}
use Rattle.mu_tree.specs.declared.flat.FlatRole.TheVariants as flat_role
use Rattle.mu_tree.specs.Expression.{Expression, Reference}
use Rattle.mu_tree.specs.FlatExpression.{FlatExpression, FlatVariable, FlatEquationTree, FlatAction}
use Rattle.mu_tree.specs.FlatExpression.{FlatBranchTree, FlatModelTree}
use Rattle.mu_tree.specs.FlatModels.{target_role}
use Rattle.mu_tree.specs.ModelTree.{BranchTree, ClauseTrees, EquationTrees, ModelTree, Range}
use Rattle.mu_tree.specs.ModelTree.{StatementTrees, clauses_of, equations_of, statements_of}
use Rattle.mu_tree.specs.Nests.{Each, NestTree, NestTrees, One, OneEquation, OneStatement}
use Rattle.mu_tree.specs.Nests.{clause_items, equation_items, item_then, no_items, statement_items}
use Rattle.mu_names.specs.declared.declared_scope.Known.{Known}
use Rattle.mu_unroll.specs.declared.unroll_fault.UnrollErr.{UnrollErr}
use Rattle.mu_unroll.specs.declared.environment.ResolvedReference.{ResolvedReference}
use Rattle.mu_unroll.specs.declared.environment.LoopVar.{LoopVar}
use Rattle.mu_unroll.specs.declared.environment.NameDenotation.{NameDenotation}
use Rattle.mu_unroll.specs.LoopBounds.{bounds_of}
use Rattle.mu_unroll.specs.Flattening.{constants_in, found, flattened, number_of_kind}
use Rattle.mu_unroll.specs.VariablePlaces.{meant_in, scalars_in}
use Rattle.mu_unroll.specs.Unrolling.{assign_to, declared_in, equation_for, inside, restart_of}
use Rattle.mu_unroll.specs.Unrolling.{rounds_from, with_start}
use Rattle.mu_unroll.specs.ConstantValues.{bind_result, constant_value}

-- the concatenation of two lists, or the first fault
abbrev pub followed : {X : Type 0} → Result (List X) UnrollErr → Result (List X) UnrollErr → Result (List X) UnrollErr
followed r s = bind_result r (λ xs. bind_result s (λ ys. Ok (xs ++ ys)))

-- the concatenated results for `more` consecutive integers from i on
abbrev pub each_round : {X : Type 0} → (ℤ → Result (List X) UnrollErr) → ℤ → ℕ → Result (List X) UnrollErr
each_round once i zero = Ok []
each_round once i (suc more) = followed (once i) (each_round once (i +ℤ pos 1) more)

-- the concatenated results for each value of the loop variable
abbrev pub each_value : {X : Type 0} → (List ℕ → NameDenotation) → Range → (ℤ → Result (List X) UnrollErr) → Result (List X) UnrollErr
each_value known range once = bind_result (bounds_of known range.at range.from range.to) (λ r. each_round once r.next (rounds_from r.next r.last))

-- one flat equation
abbrev pub the_equation : Bool → (List ℕ → NameDenotation) → Reference → Expression → Result (List FlatEquationTree) UnrollErr
the_equation der known target e =
    bind_result (found known target) (λ t. bind_result (flattened false known e) (λ f. Ok (option_to_list (equation_for der (number_of_kind (target_role der) t) f))))

-- the results of an item inside loops
abbrev pub Listing : Type 0 → Type 0
Listing X = (List ℕ → NameDenotation) → List LoopVar → Result (List X) UnrollErr

abbrev mutual
  -- the results of an item, where `one` gives those of an item that is no loop
  pub listed_item : {L X : Type 0} → (L → Listing X) → NestTree L → Listing X
  listed_item one (One l) declared loops = one l declared loops
  listed_item one (Each range body) declared loops =
      each_value (meant_in loops declared) range (λ i. listed_items one body declared (inside loops range.var i))

  pub listed_items : {L X : Type 0} → (L → Listing X) → NestTrees L → Listing X
  listed_items one no_items declared loops = Ok []
  listed_items one (item_then x xs) declared loops = followed (listed_item one x declared loops) (listed_items one xs declared loops)

-- the flat equations of equations inside loops
abbrev pub equation_listing : OneEquation → Listing FlatEquationTree
equation_listing e declared loops = the_equation e.der (meant_in loops declared) e.target e.value

abbrev pub listed_equations : (List ℕ → NameDenotation) → List LoopVar → EquationTrees → Result (List FlatEquationTree) UnrollErr
listed_equations declared loops es = listed_items equation_listing (equation_items es) declared loops

-- one flat statement
abbrev pub the_action : (Option ℕ → FlatExpression → Option FlatAction) → FlatRole → (List ℕ → NameDenotation) → Reference → Expression → Result (List FlatAction) UnrollErr
the_action action kind known target e =
    bind_result (found known target) (λ t. bind_result (flattened true known e) (λ f. Ok (option_to_list (action (number_of_kind kind t) f))))

-- the flat statements of statements inside loops
abbrev pub statement_listing : OneStatement → Listing FlatAction
statement_listing s declared loops =
    if s.restart then the_action restart_of flat_role.State (meant_in loops declared) s.target s.value
    else the_action assign_to flat_role.Discrete (meant_in loops declared) s.target s.value

abbrev pub listed_statements : (List ℕ → NameDenotation) → List LoopVar → StatementTrees → Result (List FlatAction) UnrollErr
listed_statements declared loops ss = listed_items statement_listing (statement_items ss) declared loops

-- the flat branch of a branch
abbrev pub the_branch : (List ℕ → NameDenotation) → List LoopVar → BranchTree → Result (List FlatBranchTree) UnrollErr
the_branch declared loops b =
    bind_result (flattened true (meant_in loops declared) b.condition.left) (λ l.
    bind_result (flattened true (meant_in loops declared) b.condition.right) (λ r.
    bind_result (listed_statements declared loops (statements_of b.body)) (λ body.
    Ok (record { left = l; rel = b.condition.rel; right = r; at = b.condition.at; body = body } ∷ []))))

abbrev pub listed_branches : (List ℕ → NameDenotation) → List LoopVar → List BranchTree → Result (List FlatBranchTree) UnrollErr
listed_branches declared loops [] = Ok []
listed_branches declared loops (b ∷ bs) = followed (the_branch declared loops b) (listed_branches declared loops bs)

-- the flat clauses of clauses inside loops
abbrev pub clause_listing : List BranchTree → Listing (List FlatBranchTree)
clause_listing bs declared loops = bind_result (listed_branches declared loops bs) (λ xs. Ok (xs ∷ []))

abbrev pub listed_clauses : (List ℕ → NameDenotation) → List LoopVar → ClauseTrees → Result (List (List FlatBranchTree)) UnrollErr
listed_clauses declared loops cs = listed_items clause_listing (clause_items cs) declared loops

-- a start assignment: its target and its value
pub record StartValue : Type 0 where
  pub target : ResolvedReference
  pub value : Fraction

-- the start assignments of statements inside loops
abbrev pub start_listing : OneStatement → Listing StartValue
start_listing s declared loops =
    if s.restart then Ok [] else bind_result (found (meant_in loops declared) s.target) (λ t. bind_result (constant_value (constants_in (meant_in loops declared)) s.value) (λ a. Ok (record { target = t; value = a } ∷ [])))

abbrev pub listed_starts : (List ℕ → NameDenotation) → List LoopVar → StatementTrees → Result (List StartValue) UnrollErr
listed_starts declared loops ss = listed_items start_listing (statement_items ss) declared loops

-- the variables after start assignments; the last assignment to a variable takes effect
abbrev pub started : List FlatVariable → List StartValue → List FlatVariable
started vars [] = vars
started vars (s ∷ ss) = started (with_start vars s.target s.value) ss

-- the flat model
abbrev pub listed : ModelTree → List Known → Result FlatModelTree UnrollErr
listed m ks =
    bind_result (listed_starts (declared_in ks) [] (statements_of m.starts)) (λ ss.
    bind_result (listed_equations (declared_in ks) [] (equations_of m.equations)) (λ es.
    bind_result (listed_clauses (declared_in ks) [] (clauses_of m.clauses)) (λ cs.
    Ok (record { vars = started (scalars_in ks) ss; equations = es; clauses = cs }))))
