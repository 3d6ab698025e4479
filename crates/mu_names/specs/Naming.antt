-- The faults of names in equations, clauses and start assignments, each at its offset.
use Rattle.std.specs.Prelude.{ℕ, Bool, true, false, not, ◌&&◌, if◌then◌else◌, List, [], ◌∷◌, ◌++◌}
use Rattle.std.specs.List.{flat_map}
use Rattle.std.proofs.Common.{◌≡◌, ◌∙◌, map, refl, sym, ap}
use Rattle.std.proofs.lemmas.List.Concat.{flat_map-cons}
use Rattle.mu_tree.specs.Expression.{Expression, Number, Variable, Now, Previous, Sum, Product, Power, Reference, Whole, Element, Terms, no_terms, term, Factors, no_factors, factor}
use Rattle.mu_tree.specs.ModelTree.{Range, EquationTree, EquationTrees, StatementTree, StatementTrees, BranchTree, ClauseTree, ClauseTrees, statements_of}
use Rattle.mu_tree.specs.Nests.{Each, NestTree, NestTrees, One, OneEquation, OneStatement, clause_item, clause_items, equation_item, equation_items, item_then, items_of, no_items, statement_item, statement_items}
use Rattle.mu_names.specs.declared.name_fault.NameErr.{NameErr}
use Rattle.mu_names.specs.declared.name_fault.NameErr.TheVariants.{Duplicate, Unknown, Misused}
use Rattle.mu_names.specs.declared.name_kind.Role.{Role}
use Rattle.mu_names.specs.declared.name_kind.Role.TheVariants.{State, Discrete, Algebraic, Parameter}
use Rattle.mu_names.specs.declared.name_kind.NameKind.{NameKind}
use Rattle.mu_names.specs.declared.name_kind.NameKind.TheVariants.{Loop, Declared, Missing}
use Rattle.mu_names.specs.declared.name_kind.NameRequirement.{NameRequirement}
use Rattle.mu_names.specs.declared.name_kind.NameRequirement.TheVariants as wanted
use Rattle.mu_names.specs.declared.name_kind.NameContext.{NameContext}
use Rattle.mu_names.specs.declared.name_kind.NameContext.TheVariants as reading
use Rattle.mu_names.specs.DeclaredRoles.{name_of, name_kind_in}

-- the requirement allows a role
abbrev pub is_wanted : NameRequirement → Role → Bool
is_wanted wanted.Value role = true
is_wanted wanted.Constant Parameter = true
is_wanted wanted.Constant State = false
is_wanted wanted.Constant Discrete = false
is_wanted wanted.Constant Algebraic = false
is_wanted wanted.State State = true
is_wanted wanted.State Discrete = false
is_wanted wanted.State Algebraic = false
is_wanted wanted.State Parameter = false
is_wanted wanted.Discrete Discrete = true
is_wanted wanted.Discrete State = false
is_wanted wanted.Discrete Algebraic = false
is_wanted wanted.Discrete Parameter = false
is_wanted wanted.Algebraic Algebraic = true
is_wanted wanted.Algebraic State = false
is_wanted wanted.Algebraic Discrete = false
is_wanted wanted.Algebraic Parameter = false
is_wanted wanted.Started State = true
is_wanted wanted.Started Discrete = true
is_wanted wanted.Started Algebraic = false
is_wanted wanted.Started Parameter = false
is_wanted wanted.Nothing role = false

-- the requirement allows a loop variable
abbrev pub wants_loops : NameRequirement → Bool
wants_loops wanted.Value = true
wants_loops wanted.Constant = true
wants_loops wanted.State = false
wants_loops wanted.Discrete = false
wants_loops wanted.Algebraic = false
wants_loops wanted.Started = false
wants_loops wanted.Nothing = false

-- both true or both false
abbrev pub is_same : Bool → Bool → Bool
is_same true b = b
is_same false b = not b

-- the fault of a name; an array needs an index, and other names have none
abbrev pub named_faults : NameRequirement → Bool → ℕ → NameKind → List NameErr
named_faults want indexed at Missing = Unknown at ∷ []
named_faults want indexed at Loop = if wants_loops want && not indexed then [] else Misused at ∷ []
named_faults want indexed at (Declared role array) = if is_wanted want role && is_same array indexed then [] else Misused at ∷ []

-- the requirement on a name in an equation, in a clause, and in a constant expression
abbrev pub wanted_in : NameContext → NameRequirement
wanted_in reading.Equation = wanted.Value
wanted_in reading.Clause = wanted.Value
wanted_in reading.Constant = wanted.Constant

-- the requirement on a name under `pre`, which is allowed only in clauses
abbrev pub wanted_before : NameContext → NameRequirement
wanted_before reading.Equation = wanted.Nothing
wanted_before reading.Clause = wanted.Discrete
wanted_before reading.Constant = wanted.Nothing

-- the fault of `time` in a constant expression
abbrev pub time_faults : NameContext → ℕ → List NameErr
time_faults reading.Equation at = []
time_faults reading.Clause at = []
time_faults reading.Constant at = Misused at ∷ []

abbrev mutual
  -- the faults of names in an expression; an index is a constant expression
  pub expression_faults : NameContext → (List ℕ → NameKind) → Expression → List NameErr
  expression_faults place known (Number digits at) = []
  expression_faults place known (Variable r) = reference_faults (wanted_in place) known r
  expression_faults place known (Now at) = time_faults place at
  expression_faults place known (Previous r) = reference_faults (wanted_before place) known r
  expression_faults place known (Sum ts) = terms_faults place known ts
  expression_faults place known (Product fs) = factors_faults place known fs
  expression_faults place known (Power base exp at) = expression_faults place known base

  -- the faults of a reference under a requirement
  pub reference_faults : NameRequirement → (List ℕ → NameKind) → Reference → List NameErr
  reference_faults want known (Whole name at) = named_faults want false at (known name)
  reference_faults want known (Element name index at) = named_faults want true at (known name) ++ expression_faults reading.Constant known index

  pub terms_faults : NameContext → (List ℕ → NameKind) → Terms → List NameErr
  terms_faults place known no_terms = []
  terms_faults place known (term minus at e rest) = expression_faults place known e ++ terms_faults place known rest

  pub factors_faults : NameContext → (List ℕ → NameKind) → Factors → List NameErr
  factors_faults place known no_factors = []
  factors_faults place known (factor divide at e rest) = expression_faults place known e ++ factors_faults place known rest

-- the fault of a loop variable whose name is already in use
abbrev pub taken_faults : ℕ → NameKind → List NameErr
taken_faults at Missing = []
taken_faults at Loop = Duplicate at ∷ []
taken_faults at (Declared role array) = Duplicate at ∷ []

-- the faults of a loop's variable and of its bounds, which are constant expressions
abbrev pub range_faults : (List ℕ → NameKind) → Range → List NameErr
range_faults known r = taken_faults r.at (known r.var) ++ (expression_faults reading.Constant known r.from ++ expression_faults reading.Constant known r.to)

-- the faults of a left side and a right side
abbrev pub sides_faults : NameRequirement → NameContext → (List ℕ → NameKind) → Reference → Expression → List NameErr
sides_faults want place known target e = reference_faults want known target ++ expression_faults place known e

-- the faults of an equation that is no loop
abbrev pub one_equation_faults : (List ℕ → NameKind) → List (List ℕ) → OneEquation → List NameErr
one_equation_faults declared loops e =
    sides_faults (if e.der then wanted.State else wanted.Algebraic) reading.Equation
    (name_kind_in loops declared) e.target e.value

-- the faults of a statement of a clause that is no loop
abbrev pub one_statement_faults : (List ℕ → NameKind) → List (List ℕ) → OneStatement → List NameErr
one_statement_faults declared loops s =
    sides_faults (if s.restart then wanted.State else wanted.Discrete) reading.Clause
    (name_kind_in loops declared) s.target s.value

-- the faults of a start assignment, whose right side is a constant expression
abbrev pub one_start_faults : (List ℕ → NameKind) → List (List ℕ) → OneStatement → List NameErr
one_start_faults declared loops s =
    if s.restart then []
    else sides_faults wanted.Started reading.Constant (name_kind_in loops declared) s.target s.value

abbrev mutual
  -- the faults of an item inside these loops, where `one` states those of an item that is no loop
  pub item_faults : {L : Type 0} → ((List ℕ → NameKind) → List (List ℕ) → L → List NameErr)
      → (List ℕ → NameKind) → List (List ℕ) → NestTree L → List NameErr
  item_faults one declared loops (One l) = one declared loops l
  item_faults one declared loops (Each range body) =
      range_faults (name_kind_in loops declared) range
      ++ items_faults one declared (loops ++ range.var ∷ []) body

  pub items_faults : {L : Type 0} → ((List ℕ → NameKind) → List (List ℕ) → L → List NameErr)
      → (List ℕ → NameKind) → List (List ℕ) → NestTrees L → List NameErr
  items_faults one declared loops no_items = []
  items_faults one declared loops (item_then x xs) =
      item_faults one declared loops x ++ items_faults one declared loops xs

-- the faults, unless the item is a loop
abbrev pub unless_loop : {L : Type 0} → NestTree L → List NameErr → List NameErr
unless_loop (One l) faults = faults
unless_loop (Each range body) faults = []

-- the faults of a list of items are those of each item
pub list_faults : {T Tree L : Type 0} (one : (List ℕ → NameKind) → List (List ℕ) → L → List NameErr)
    (tree : T → Tree) (item : Tree → NestTree L) (declared : List ℕ → NameKind)
    (loops : List (List ℕ)) (xs : List T)
    → items_faults one declared loops (items_of (map item (map tree xs)))
    ≡ flat_map (λ x. item_faults one declared loops (item (tree x))) xs
list_faults {T} {Tree} {L} one tree item declared loops [] = refl
list_faults {T} {Tree} {L} one tree item declared loops (x ∷ xs) =
    ap (λ fs. item_faults one declared loops (item (tree x)) ++ fs)
    (list_faults one tree item declared loops xs)
    ∙ sym (flat_map-cons (λ y. item_faults one declared loops (item (tree y))) x xs)

-- the faults of a loop are those of its range and of its body
pub loop_faults : {T Tree L : Type 0} (one : (List ℕ → NameKind) → List (List ℕ) → L → List NameErr)
    (tree : T → Tree) (each : Range → List Tree → Tree) (item : Tree → NestTree L)
    (each_item : (r : Range) (ts : List Tree) → item (each r ts) ≡ Each r (items_of (map item ts)))
    (declared : List ℕ → NameKind) (loops : List (List ℕ)) (x : T) (r : Range) (body : List T)
    → tree x ≡ each r (map tree body)
    → item_faults one declared loops (item (tree x))
    ≡ range_faults (name_kind_in loops declared) r
    ++ flat_map (λ y. item_faults one declared (loops ++ r.var ∷ []) (item (tree y))) body
loop_faults {T} {Tree} {L} one tree each item each_item declared loops x r body is =
    ap (item_faults one declared loops) (ap item is ∙ each_item r (map tree body))
    ∙ ap (λ fs. range_faults (name_kind_in loops declared) r ++ fs)
    (list_faults one tree item declared (loops ++ r.var ∷ []) body)

-- the faults of equations, of statements of a clause, and of start assignments
abbrev pub equation_faults : (List ℕ → NameKind) → List (List ℕ) → EquationTree → List NameErr
equation_faults declared loops e = item_faults one_equation_faults declared loops (equation_item e)

abbrev pub equations_faults : (List ℕ → NameKind) → List (List ℕ) → EquationTrees → List NameErr
equations_faults declared loops es =
    items_faults one_equation_faults declared loops (equation_items es)

abbrev pub statement_faults : (List ℕ → NameKind) → List (List ℕ) → StatementTree → List NameErr
statement_faults declared loops s =
    item_faults one_statement_faults declared loops (statement_item s)

abbrev pub statements_faults : (List ℕ → NameKind) → List (List ℕ) → StatementTrees → List NameErr
statements_faults declared loops ss =
    items_faults one_statement_faults declared loops (statement_items ss)

abbrev pub start_faults : (List ℕ → NameKind) → List (List ℕ) → StatementTree → List NameErr
start_faults declared loops s = item_faults one_start_faults declared loops (statement_item s)

abbrev pub starts_faults : (List ℕ → NameKind) → List (List ℕ) → StatementTrees → List NameErr
starts_faults declared loops ss = items_faults one_start_faults declared loops (statement_items ss)

-- the faults of a branch
abbrev pub branch_faults : (List ℕ → NameKind) → List (List ℕ) → BranchTree → List NameErr
branch_faults declared loops b =
    expression_faults reading.Clause (name_kind_in loops declared) b.condition.left
    ++ (expression_faults reading.Clause (name_kind_in loops declared) b.condition.right
    ++ statements_faults declared loops (statements_of b.body))

-- the faults of branches
abbrev pub branches_faults : (List ℕ → NameKind) → List (List ℕ) → List BranchTree → List NameErr
branches_faults declared loops [] = []
branches_faults declared loops (b ∷ bs) = branch_faults declared loops b ++ branches_faults declared loops bs

-- the faults of clauses
abbrev pub clause_faults : (List ℕ → NameKind) → List (List ℕ) → ClauseTree → List NameErr
clause_faults declared loops c = item_faults branches_faults declared loops (clause_item c)

abbrev pub clauses_faults : (List ℕ → NameKind) → List (List ℕ) → ClauseTrees → List NameErr
clauses_faults declared loops cs = items_faults branches_faults declared loops (clause_items cs)
