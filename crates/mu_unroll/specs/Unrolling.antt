-- The flat model of a model with all limits, or the first fault in source order.
use Rattle.std.specs.Prelude.{ℕ, ℤ, pos, negsuc, ◌+◌, ◌+ℤ◌, ◌-ℤ◌, ◌^◌, nat_lt, if◌then◌else◌, Bool}
use Rattle.std.specs.Prelude.{true, false, unwrap_or, List, [], ◌∷◌, ◌++◌, Option, Some, None}
use Rattle.std.specs.Prelude.{Result, Ok, Err}
use Prim.Native.Nat.{zero, suc}
use Rattle.mu_num.specs.Fraction.{Fraction, whole}
use Rattle.mu_tree.specs.declared.flat.FlatRole.{FlatRole}
use Rattle.mu_tree.specs.declared.flat.FlatRole.TheVariants as flat_role
use Rattle.mu_tree.specs.Expression.{Expression, Reference}
use Rattle.mu_tree.specs.FlatExpression.{FlatVariable, FlatEquationTree, FlatAction, FlatBranchTree}
use Rattle.mu_tree.specs.FlatExpression.{FlatModelTree}
use Rattle.mu_tree.specs.FlatExpression as flat
use Rattle.mu_tree.specs.FlatModels.{target_role}
use Rattle.mu_tree.specs.ModelTree.{Range, EquationTree, EquationTrees, StatementTree}
use Rattle.mu_tree.specs.ModelTree.{StatementTrees, BranchTree, ClauseTree, ClauseTrees}
use Rattle.mu_tree.specs.ModelTree.{equations_of, statements_of, clauses_of, ModelTree}
use Rattle.mu_tree.specs.Nests.{Each, NestTree, NestTrees, One, OneEquation, OneStatement}
use Rattle.mu_tree.specs.Nests.{clause_item, clause_items, equation_item, equation_items}
use Rattle.mu_tree.specs.Nests.{item_then, no_items, statement_item, statement_items}
use Rattle.mu_names.specs.declared.declared_scope.Known.{Known}
use Rattle.mu_unroll.specs.declared.unroll_counts.Counts.{Counts}
use Rattle.mu_unroll.specs.declared.unroll_fault.UnrollErr.{UnrollErr}
use Rattle.mu_unroll.specs.declared.unroll_fault.UnrollErr.TheVariants.{TooMany}
use Rattle.mu_unroll.specs.declared.environment.ResolvedReference.{ResolvedReference}
use Rattle.mu_unroll.specs.declared.environment.ResolvedReference.TheVariants as found_as
use Rattle.mu_unroll.specs.declared.environment.NameDenotation.{NameDenotation}
use Rattle.mu_unroll.specs.declared.environment.NameDenotation.TheVariants as meant
use Rattle.mu_unroll.specs.declared.environment.LoopVar.{LoopVar}
use Rattle.mu_unroll.specs.ConstantValues.{bind_result, constant_value}
use Rattle.mu_unroll.specs.VariablePlaces.{meant_in, first_meant, scalars_in, scalar_count}
use Rattle.mu_unroll.specs.Counting.{node_count, with_item, with_round, no_counts}
use Rattle.mu_unroll.specs.LoopBounds.{bounds_of}
use Rattle.mu_unroll.specs.Flattening.{constants_in, found, flattened, number_of_kind}

-- the results so far, and the counts
pub record Progress (X : Type 0) : Type 0 where
  pub done : List X
  pub counts : Counts

abbrev pub progress : {X : Type 0} → List X → Counts → Progress X
progress done counts = record { done = done; counts = counts }

-- one more result
abbrev pub with_more : {X : Type 0} → Progress X → Counts → X → Progress X
with_more p counts x = record { done = p.done ++ x ∷ []; counts = counts }

-- one more result, if there is one
abbrev pub with_maybe : {X : Type 0} → Progress X → Counts → Option X → Progress X
with_maybe p counts (Some x) = with_more p counts x
with_maybe p counts None = record { done = p.done; counts = counts }

-- the integer as a natural number; 0 for negative integers
abbrev pub natural : ℤ → ℕ
natural (pos n) = n
natural (negsuc n) = 0

-- how many integers there are from a to b
abbrev pub rounds_from : ℤ → ℤ → ℕ
rounds_from a b = natural ((b -ℤ a) +ℤ pos 1)

-- the rounds of a loop from i on; each round is counted before its body
abbrev pub repeated : {X : Type 0} → (ℤ → Progress X → Result (Progress X) UnrollErr) → ℤ → ℕ → Progress X → Result (Progress X) UnrollErr
repeated once i zero p = Ok p
repeated once i (suc more) p =
    bind_result (with_round p.counts) (λ c. bind_result (once i (record { done = p.done; counts = c })) (λ q. repeated once (i +ℤ pos 1) more q))

-- the loop variables inside one more loop
abbrev pub inside : List LoopVar → List ℕ → ℤ → List LoopVar
inside loops var i = loops ++ record { name = var; value = whole i } ∷ []

-- a loop: its first bound, its last bound, and then its rounds
abbrev pub looped : {X : Type 0} → (List ℕ → NameDenotation) → Range → (ℤ → Progress X → Result (Progress X) UnrollErr) → Progress X → Result (Progress X) UnrollErr
looped known range once p =
    bind_result (bounds_of known range.at range.from range.to) (λ r. repeated once r.next (rounds_from r.next r.last) p)

-- a step of unrolling inside loops
abbrev pub Step : Type 0 → Type 0
Step X = (List ℕ → NameDenotation) → List LoopVar → Progress X → Result (Progress X) UnrollErr

abbrev mutual
  -- an item inside loops, where `one` is the step of an item that is no loop
  pub unrolled_item : {L X : Type 0} → (L → Step X) → NestTree L → Step X
  unrolled_item one (One l) declared loops p = one l declared loops p
  unrolled_item one (Each range body) declared loops p =
      looped (meant_in loops declared) range (λ i q. unrolled_items one body declared (inside loops range.var i) q) p

  pub unrolled_items : {L X : Type 0} → (L → Step X) → NestTrees L → Step X
  unrolled_items one no_items declared loops p = Ok p
  unrolled_items one (item_then x xs) declared loops p =
      bind_result (unrolled_item one x declared loops p) (λ q. unrolled_items one xs declared loops q)

-- the flat equation, if its target is a variable with the required role
abbrev pub equation_for : (der : Bool) → Option ℕ → flat.FlatExpression → Option FlatEquationTree
equation_for der (Some v) f = Some (record { der = der; target = v; value = f })
equation_for der None f = None

-- one flat equation: it is counted, then its left side and then its right side are flattened
abbrev pub one_equation : Bool → (List ℕ → NameDenotation) → Reference → Expression → Progress FlatEquationTree → Result (Progress FlatEquationTree) UnrollErr
one_equation der known target e p =
    bind_result (with_item p.counts (node_count e)) (λ c. bind_result (found known target) (λ t. bind_result (flattened false known e) (λ f.
    Ok (with_maybe p c (equation_for der (number_of_kind (target_role der) t) f)))))

-- an equation that is no loop
abbrev pub equation_once : OneEquation → Step FlatEquationTree
equation_once e declared loops p = one_equation e.der (meant_in loops declared) e.target e.value p

-- the flat equations of an equation inside loops, and of a list of equations
abbrev pub unrolled_equation : (List ℕ → NameDenotation) → List LoopVar → EquationTree → Progress FlatEquationTree → Result (Progress FlatEquationTree) UnrollErr
unrolled_equation declared loops e p = unrolled_item equation_once (equation_item e) declared loops p

abbrev pub unrolled_equations : (List ℕ → NameDenotation) → List LoopVar → EquationTrees → Progress FlatEquationTree → Result (Progress FlatEquationTree) UnrollErr
unrolled_equations declared loops es p = unrolled_items equation_once (equation_items es) declared loops p

-- an assignment to a discrete variable, and a reinit of a state
abbrev pub assign_to : Option ℕ → flat.FlatExpression → Option FlatAction
assign_to (Some v) f = Some (flat.Assign v f)
assign_to None f = None

abbrev pub restart_of : Option ℕ → flat.FlatExpression → Option FlatAction
restart_of (Some v) f = Some (flat.Restart v f)
restart_of None f = None

-- one flat statement whose target has a kind
abbrev pub one_action : (Option ℕ → flat.FlatExpression → Option FlatAction) → FlatRole → (List ℕ → NameDenotation) → Reference → Expression → Progress FlatAction → Result (Progress FlatAction) UnrollErr
one_action action kind known target e p =
    bind_result (with_item p.counts (node_count e)) (λ c. bind_result (found known target) (λ t. bind_result (flattened true known e) (λ f.
    Ok (with_maybe p c (action (number_of_kind kind t) f)))))

-- one flat statement: a reinit of a state, or an assignment to a discrete variable
abbrev pub one_statement : (restart : Bool) → (List ℕ → NameDenotation) → Reference → Expression → Progress FlatAction → Result (Progress FlatAction) UnrollErr
one_statement restart known target e p =
    if restart then one_action restart_of flat_role.State known target e p
    else one_action assign_to flat_role.Discrete known target e p

-- a statement of a clause that is no loop
abbrev pub statement_once : OneStatement → Step FlatAction
statement_once s declared loops p = one_statement s.restart (meant_in loops declared) s.target s.value p

-- the flat statements of a statement inside loops, and of a list of statements
abbrev pub unrolled_statement : (List ℕ → NameDenotation) → List LoopVar → StatementTree → Progress FlatAction → Result (Progress FlatAction) UnrollErr
unrolled_statement declared loops s p = unrolled_item statement_once (statement_item s) declared loops p

abbrev pub unrolled_statements : (List ℕ → NameDenotation) → List LoopVar → StatementTrees → Progress FlatAction → Result (Progress FlatAction) UnrollErr
unrolled_statements declared loops ss p = unrolled_items statement_once (statement_items ss) declared loops p

-- the flat branch of a branch: its condition is counted with the nodes of both sides, then follow
-- the sides and the statements
abbrev pub unrolled_branch : (List ℕ → NameDenotation) → List LoopVar → BranchTree → Progress FlatBranchTree → Result (Progress FlatBranchTree) UnrollErr
unrolled_branch declared loops b p =
    bind_result (with_item p.counts (node_count b.condition.left + node_count b.condition.right)) (λ c.
    bind_result (flattened true (meant_in loops declared) b.condition.left) (λ l.
    bind_result (flattened true (meant_in loops declared) b.condition.right) (λ r.
    bind_result (unrolled_items statement_once (statement_items (statements_of b.body)) declared loops (record { done = []; counts = c })) (λ q.
    Ok (with_more p q.counts (record { left = l; rel = b.condition.rel; right = r; at = b.condition.at; body = q.done }))))))

-- the flat branches in order
abbrev pub unrolled_branches : (List ℕ → NameDenotation) → List LoopVar → List BranchTree → Progress FlatBranchTree → Result (Progress FlatBranchTree) UnrollErr
unrolled_branches declared loops [] p = Ok p
unrolled_branches declared loops (b ∷ bs) p = bind_result (unrolled_branch declared loops b p) (λ q. unrolled_branches declared loops bs q)

-- one flat clause
abbrev pub one_clause : (List ℕ → NameDenotation) → List LoopVar → List BranchTree → Progress (List FlatBranchTree) → Result (Progress (List FlatBranchTree)) UnrollErr
one_clause declared loops bs p =
    bind_result (unrolled_branches declared loops bs (record { done = []; counts = p.counts })) (λ q. Ok (with_more p q.counts q.done))

-- a clause that is no loop
abbrev pub clause_once : List BranchTree → Step (List FlatBranchTree)
clause_once bs declared loops p = one_clause declared loops bs p

-- the flat clauses of a clause inside loops, and of a list of clauses
abbrev pub unrolled_clause : (List ℕ → NameDenotation) → List LoopVar → ClauseTree → Progress (List FlatBranchTree) → Result (Progress (List FlatBranchTree)) UnrollErr
unrolled_clause declared loops c p = unrolled_item clause_once (clause_item c) declared loops p

abbrev pub unrolled_clauses : (List ℕ → NameDenotation) → List LoopVar → ClauseTrees → Progress (List FlatBranchTree) → Result (Progress (List FlatBranchTree)) UnrollErr
unrolled_clauses declared loops cs p = unrolled_items clause_once (clause_items cs) declared loops p

-- the variables with one start value replaced
abbrev pub start_at : List FlatVariable → ℕ → Fraction → List FlatVariable
start_at [] v a = []
start_at (d ∷ ds) zero a = record d { start = a } ∷ ds
start_at (d ∷ ds) (suc v) a = d ∷ start_at ds v a

-- the variables after a start assignment; only states and discrete variables have start values
abbrev pub with_start : List FlatVariable → ResolvedReference → Fraction → List FlatVariable
with_start vars (found_as.Numbered flat_role.State v) a = start_at vars v a
with_start vars (found_as.Numbered flat_role.Discrete v) a = start_at vars v a
with_start vars (found_as.Numbered flat_role.Algebraic v) a = vars
with_start vars (found_as.Value b) a = vars
with_start vars found_as.Unfound a = vars

-- one start assignment, which is counted without nodes
abbrev pub one_start : (List ℕ → NameDenotation) → Reference → Expression → Progress FlatVariable → Result (Progress FlatVariable) UnrollErr
one_start known target e p =
    bind_result (with_item p.counts 0) (λ c. bind_result (found known target) (λ t. bind_result (constant_value (constants_in known) e) (λ a.
    Ok (record { done = with_start p.done t a; counts = c }))))

-- a start assignment that is no loop; the last assignment to a variable takes effect
abbrev pub start_once : OneStatement → Step FlatVariable
start_once s declared loops p =
    if s.restart then Ok p else one_start (meant_in loops declared) s.target s.value p

-- the variables after a start assignment inside loops, and after a list of start assignments
abbrev pub unrolled_start : (List ℕ → NameDenotation) → List LoopVar → StatementTree → Progress FlatVariable → Result (Progress FlatVariable) UnrollErr
unrolled_start declared loops s p = unrolled_item start_once (statement_item s) declared loops p

abbrev pub unrolled_starts : (List ℕ → NameDenotation) → List LoopVar → StatementTrees → Progress FlatVariable → Result (Progress FlatVariable) UnrollErr
unrolled_starts declared loops ss p = unrolled_items start_once (statement_items ss) declared loops p

-- what the declared names of a scope denote
abbrev pub declared_in : List Known → List ℕ → NameDenotation
declared_in ks name = unwrap_or (first_meant ks [] ks name) meant.Nothing

-- the flat model with these denotations and variables: start assignments, then equations, then
-- clauses
abbrev pub unrolled_with : (List ℕ → NameDenotation) → ModelTree → List FlatVariable → Result FlatModelTree UnrollErr
unrolled_with declared m vars =
    bind_result (unrolled_items start_once (statement_items (statements_of m.starts)) declared [] (record { done = vars; counts = no_counts })) (λ s.
    bind_result (unrolled_items equation_once (equation_items (equations_of m.equations)) declared [] (record { done = []; counts = s.counts })) (λ e.
    bind_result (unrolled_items clause_once (clause_items (clauses_of m.clauses)) declared [] (record { done = []; counts = e.counts })) (λ c.
    Ok (record { vars = s.done; equations = e.done; clauses = c.done }))))

-- the flat model of a model with this scope, or the first fault; the limit of 4,096 scalar
-- variables is checked first
abbrev pub unrolled : ModelTree → List Known → Result FlatModelTree UnrollErr
unrolled m ks = if nat_lt (2 ^ 12) (scalar_count ks) then Err (TooMany (2 ^ 12 + 1)) else unrolled_with (declared_in ks) m (scalars_in ks)
