-- In a model without name errors each name inside an expression denotes what the expression takes.
use Rattle.qss_theorems.proofs.Common
use Common.{[], ℕ, ◌++◌, ◌∙◌, ◌∷◌, ◌≡◌, Algebraic, Assign, Bool, branch_faults, Branches}
use Common.{branches_faults, BranchTree, bytes_eq, clause_faults, clause_then, clauses_faults}
use Common.{clauses_of, ClauseTree, ClauseTrees, constant_value, constants_in, declarations_faults}
use Common.{Declared, declared_in, Derivative, derived_in, Discrete, EachClause, EachEquation}
use Common.{EachStatement, Element, element_found, EndName, equation_faults, equation_then}
use Common.{equations_faults, equations_of, EquationTree, EquationTrees, Expression}
use Common.{expression_faults, factor, Factors, false, FlatRole, found, Fraction, IfOk}
use Common.{if◌then◌else◌, index_in, inside, is_same, is_some, is_wanted, kind_of, List, Loop}
use Common.{LoopVar, meaning_in, meant_in, Missing, Misused, name_kind_in, NameContext}
use Common.{named_faults, NameDenotation, NameErr, NameKind, NameRequirement, no_clauses}
use Common.{no_constants, no_equations, no_factors, no_statements, no_terms, None, Now, Number}
use Common.{Option, Parameter, Power, Previous, Product, range_faults, Reference, reference_faults}
use Common.{refl, repeated_faults, Restart, Role, scope_of, settings_faults, settings_in}
use Common.{sides_faults, Some, start_faults, starts_faults, State, statement_faults}
use Common.{statement_then, statements_faults, statements_of, StatementTree, StatementTrees, subst}
use Common.{Sum, sym, term, Terms, true, Variable, Whole, whole_at, whole_found}
use Rattle.std.specs.Prelude.{IsSome}
use Rattle.mu_names.specs.Naming.{factors_faults, taken_faults, terms_faults, wanted_before}
use Rattle.mu_names.specs.Naming.{wanted_in}
use Rattle.mu_tree.specs.ModelTree.{Range, Algebraic as PlainEquation}
use Rattle.mu_unroll.specs.VariablePlaces.{constant_of}
use Rattle.qss_theorems.proofs.Kept.{AllFit, Fits, FitsKind, declared_fit, inside_fit, known_of}
use Rattle.qss_theorems.proofs.Kept.{names_inside, names_of, no_misuse, same_is, target_kind}
use Rattle.qss_theorems.proofs.Kept.{wants_discrete}
use Rattle.qss_theorems.proofs.Names.{whatever}
use Rattle.qss_theorems.proofs.Values.{first_none, none_sure, second_none}
use Rattle.qss_theorems.specs.Expressions.{BoundsAreConstant, BranchTakesNames, BranchesTakeNames}
use Rattle.qss_theorems.specs.Expressions.{ClauseTakesNames, ClausesTakeNames, EquationTakesNames}
use Rattle.qss_theorems.specs.Expressions.{EquationsTakeNames, FactorsTakeConstants}
use Rattle.qss_theorems.specs.Expressions.{FactorsTakeNames, HasConstantIndex, IsDiscrete, IsThere}
use Rattle.qss_theorems.specs.Expressions.{NamesAreTaken, SidesTakeNames, StartTakesConstants}
use Rattle.qss_theorems.specs.Expressions.{StartsTakeConstants, StatementTakesNames}
use Rattle.qss_theorems.specs.Expressions.{StatementsTakeNames, TakesConstants, TakesNames}
use Rattle.qss_theorems.specs.Expressions.{TermsTakeConstants, TermsTakeNames}
use Rattle.mu_names.specs.DeclaredRoles as stands
use Rattle.mu_names.specs.declared.name_kind.NameContext.TheVariants as reading
use Rattle.mu_names.specs.declared.name_kind.NameRequirement.TheVariants as wanted
use Rattle.mu_tree.specs.declared.flat.FlatRole.TheVariants as flat_role
use Rattle.mu_unroll.specs.declared.environment.NameDenotation.TheVariants as meant

-- ---- names

-- a name has a fault if no role is allowed
nothing_wanted : (indexed : Bool) (at : ℕ) (s : NameKind) → named_faults wanted.Nothing indexed at s ≡ [] → ⊥
nothing_wanted indexed at Missing e = cc
nothing_wanted indexed at Loop e = cc
nothing_wanted indexed at (Declared role array) e = cc

-- a constant, without an index
is_constant_value : (m : NameDenotation) → (a : Fraction) × (m ≡ meant.Constant a) → IsSome (constant_of m)
is_constant_value m (a, is) = subst (λ (x : NameDenotation). IsSome (constant_of x)) (sym is) refl

constant_role : (role : Role) (array : Bool) (m : NameDenotation) → is_wanted wanted.Constant role ≡ true → FitsKind (kind_of role) array m → (array ≡ false) × IsSome (constant_of m)
constant_role Parameter array m e fits = (fits.2, is_constant_value m (fits.0, fits.1))
constant_role State array m e fits = absurd (cc)
constant_role Discrete array m e fits = absurd (cc)
constant_role Algebraic array m e fits = absurd (cc)

constant_named : (at : ℕ) (s : NameKind) (m : NameDenotation) → Fits s m → named_faults wanted.Constant false at s ≡ [] → IsSome (constant_of m)
constant_named at Missing m fits e = absurd (cc)
constant_named at Loop m fits e = is_constant_value m fits
constant_named at (Declared role array) m fits e =
    let both = no_misuse (is_wanted wanted.Constant role) (is_same array false) (Misused at) e in
    (constant_role role array m both.0 fits).1

constant_indexed : (at : ℕ) (s : NameKind) (m : NameDenotation) → Fits s m → named_faults wanted.Constant true at s ≡ [] → ⊥
constant_indexed at Missing m fits e = cc
constant_indexed at Loop m fits e = cc
constant_indexed at (Declared role array) m fits e =
    let both = no_misuse (is_wanted wanted.Constant role) (is_same array true) (Misused at) e in
    let many : array ≡ true = same_is array true both.1 in
    let one = (constant_role role array m both.0 fits).0 in
    cc

-- a value or a variable
whole_there : (kind : FlatRole) (first : ℕ) (size : Option ℕ) → is_some size ≡ false → IsThere (whole_found (meant.Variable kind first size))
whole_there kind first None e = tt
whole_there kind first (Some n) e = absurd (cc)

whole_kind : (o : Option FlatRole) (array : Bool) (m : NameDenotation) → array ≡ false → FitsKind o array m → IsThere (whole_found m)
whole_kind None array m one (a, is, plain) = subst (λ (x : NameDenotation). IsThere (whole_found x)) (sym is) tt
whole_kind (Some kind) array m one (first, size, is, many) = subst (λ (x : NameDenotation). IsThere (whole_found x)) (sym is) (whole_there kind first size (many ∙ one))

whole_named : (at : ℕ) (s : NameKind) (m : NameDenotation) → Fits s m → named_faults wanted.Value false at s ≡ [] → IsThere (whole_found m)
whole_named at Missing m fits e = absurd (cc)
whole_named at Loop m (a, is) e = subst (λ (x : NameDenotation). IsThere (whole_found x)) (sym is) tt
whole_named at (Declared role array) m fits e =
    let both = no_misuse (is_wanted wanted.Value role) (is_same array false) (Misused at) e in
    whole_kind (kind_of role) array m (same_is array false both.1) fits

module _ (known : List ℕ → NameDenotation) (at : ℕ) (index : Expression) where
  element_there : (kind : FlatRole) (first : ℕ) (size : Option ℕ) → is_some size ≡ true → IfOk (element_found known at index (meant.Variable kind first size)) IsThere
  element_there kind first None e = absurd (cc)
  element_there kind first (Some n) e =
      whatever IsThere (constant_value (constants_in known) index) _ (λ a. whatever IsThere (whole_at at a) _ (λ i. whatever IsThere (index_in at n i) _ (λ k. tt)))

  element_kind : (o : Option FlatRole) (array : Bool) (m : NameDenotation) → array ≡ true → FitsKind o array m → IfOk (element_found known at index m) IsThere
  element_kind None array m many (a, is, plain) = absurd (cc)
  element_kind (Some kind) array m many (first, size, is, same) = subst (λ (x : NameDenotation). IfOk (element_found known at index x) IsThere) (sym is) (element_there kind first size (same ∙ many))

  element_named : (s : NameKind) (m : NameDenotation) → Fits s m → named_faults wanted.Value true at s ≡ [] → IfOk (element_found known at index m) IsThere
  element_named Missing m fits e = absurd (cc)
  element_named Loop m fits e = absurd (cc)
  element_named (Declared role array) m fits e =
      let both = no_misuse (is_wanted wanted.Value role) (is_same array true) (Misused at) e in
      element_kind (kind_of role) array m (same_is array true both.1) fits

-- ---- expressions

abbrev place_in : Bool → NameContext
place_in true = reading.Clause
place_in false = reading.Equation

module _ (standing : List ℕ → NameKind) (known : List ℕ → NameDenotation) (fit : AllFit standing known) where
  nothing_there : (r : Reference) → reference_faults wanted.Nothing standing r ≡ [] → ⊥
  nothing_there (Whole name at) e = nothing_wanted false at (standing name) e
  nothing_there (Element name index at) e = nothing_wanted true at (standing name) (first_none (named_faults wanted.Nothing true at (standing name)) _ e)

  mutual
    constants_taken : (e : Expression) → expression_faults reading.Constant standing e ≡ [] → TakesConstants known e
    constants_taken (Number digits at) none = tt
    constants_taken (Variable (Whole name at)) none = constant_named at (standing name) (known name) (fit name) none
    constants_taken (Variable (Element name index at)) none =
        absurd (constant_indexed at (standing name) (known name) (fit name) (first_none (named_faults wanted.Constant true at (standing name)) _ none))
    constants_taken (Now at) none = absurd (cc)
    constants_taken (Previous r) none = absurd (nothing_there r none)
    constants_taken (Sum ts) none = terms_constant ts none
    constants_taken (Product fs) none = factors_constant fs none
    constants_taken (Power base exp at) none = constants_taken base none

    terms_constant : (ts : Terms) → terms_faults reading.Constant standing ts ≡ [] → TermsTakeConstants known ts
    terms_constant no_terms none = tt
    terms_constant (term minus at e rest) none =
        (constants_taken e (first_none (expression_faults reading.Constant standing e) _ none), terms_constant rest (second_none (expression_faults reading.Constant standing e) _ none))

    factors_constant : (fs : Factors) → factors_faults reading.Constant standing fs ≡ [] → FactorsTakeConstants known fs
    factors_constant no_factors none = tt
    factors_constant (factor divide at e rest) none =
        (constants_taken e (first_none (expression_faults reading.Constant standing e) _ none), factors_constant rest (second_none (expression_faults reading.Constant standing e) _ none))

  index_taken : (want : NameRequirement) (r : Reference) → reference_faults want standing r ≡ [] → HasConstantIndex known r
  index_taken want (Whole name at) none = tt
  index_taken want (Element name index at) none = constants_taken index (second_none (named_faults want true at (standing name)) _ none)

  value_there : (r : Reference) → reference_faults wanted.Value standing r ≡ [] → IfOk (found known r) IsThere
  value_there (Whole name at) none = whole_named at (standing name) (known name) (fit name) none
  value_there (Element name index at) none =
      element_named known at index (standing name) (known name) (fit name) (first_none (named_faults wanted.Value true at (standing name)) _ none)

  value_taken : (in_clause : Bool) (r : Reference) → reference_faults (wanted_in (place_in in_clause)) standing r ≡ [] → IfOk (found known r) IsThere × HasConstantIndex known r
  value_taken true r none = (value_there r none, index_taken wanted.Value r none)
  value_taken false r none = (value_there r none, index_taken wanted.Value r none)

  previous_taken : (in_clause : Bool) (r : Reference) → reference_faults (wanted_before (place_in in_clause)) standing r ≡ [] →
      (in_clause ≡ true) × IfOk (found known r) IsDiscrete × HasConstantIndex known r
  previous_taken true r none = (refl, target_kind standing known fit flat_role.Discrete wanted.Discrete wants_discrete r none, index_taken wanted.Discrete r none)
  previous_taken false r none = absurd (nothing_there r none)

  mutual
    names_taken : (in_clause : Bool) (e : Expression) → expression_faults (place_in in_clause) standing e ≡ [] → TakesNames in_clause known e
    names_taken in_clause (Number digits at) none = tt
    names_taken in_clause (Variable r) none = value_taken in_clause r none
    names_taken in_clause (Now at) none = tt
    names_taken in_clause (Previous r) none = previous_taken in_clause r none
    names_taken in_clause (Sum ts) none = terms_taken in_clause ts none
    names_taken in_clause (Product fs) none = factors_taken in_clause fs none
    names_taken in_clause (Power base exp at) none = names_taken in_clause base none

    terms_taken : (in_clause : Bool) (ts : Terms) → terms_faults (place_in in_clause) standing ts ≡ [] → TermsTakeNames in_clause known ts
    terms_taken in_clause no_terms none = tt
    terms_taken in_clause (term minus at e rest) none =
        let first = expression_faults (place_in in_clause) standing e in
        (names_taken in_clause e (first_none first _ none), terms_taken in_clause rest (second_none first _ none))

    factors_taken : (in_clause : Bool) (fs : Factors) → factors_faults (place_in in_clause) standing fs ≡ [] → FactorsTakeNames in_clause known fs
    factors_taken in_clause no_factors none = tt
    factors_taken in_clause (factor divide at e rest) none =
        let first = expression_faults (place_in in_clause) standing e in
        (names_taken in_clause e (first_none first _ none), factors_taken in_clause rest (second_none first _ none))

  sides_taken : (want : NameRequirement) (in_clause : Bool) (target : Reference) (e : Expression) → sides_faults want (place_in in_clause) standing target e ≡ [] → SidesTakeNames in_clause known target e
  sides_taken want in_clause target e none =
      (index_taken want target (first_none (reference_faults want standing target) _ none), names_taken in_clause e (second_none (reference_faults want standing target) _ none))

  bounds_taken : (range : Range) → range_faults standing range ≡ [] → BoundsAreConstant known range
  bounds_taken range none =
      let both = second_none (taken_faults range.at (standing range.var)) _ none in
      let from = expression_faults reading.Constant standing range.from in
      (constants_taken range.from (first_none from _ both), constants_taken range.to (second_none from _ both))

-- ---- items

module _ (declared : List ℕ → NameKind) (known : List ℕ → NameDenotation) (fit : AllFit declared known) where
  module _ (loops : List LoopVar) where
    abbrev here : List ℕ → NameKind
    here = name_kind_in (names_of loops) declared

    abbrev now : List ℕ → NameDenotation
    now = meant_in loops known

    fits : AllFit here now
    fits = inside_fit declared known loops fit

    sides : (want : NameRequirement) (in_clause : Bool) (target : Reference) (e : Expression) → sides_faults want (place_in in_clause) here target e ≡ [] → SidesTakeNames in_clause now target e
    sides want in_clause target e none = sides_taken here now fits want in_clause target e none

    bounds : (range : Range) (more : List NameErr) → range_faults here range ++ more ≡ [] → BoundsAreConstant now range
    bounds range more none = bounds_taken here now fits range (first_none (range_faults here range) more none)

  mutual
    equation_taken : (loops : List LoopVar) (x : EquationTree) → equation_faults declared (names_of loops) x ≡ [] → EquationTakesNames known loops x
    equation_taken loops (Derivative target e) none = sides loops wanted.State false target e none
    equation_taken loops (PlainEquation target e) none = sides loops wanted.Algebraic false target e none
    equation_taken loops (EachEquation range body) none = (
      bounds loops range _ none,
      λ i. equations_taken (inside loops range.var i) body
          (subst (λ (names : List (List ℕ)). equations_faults declared names body ≡ []) (names_inside loops range.var i) (second_none (range_faults (name_kind_in (names_of loops) declared) range) _ none)),
    )

    equations_taken : (loops : List LoopVar) (xs : EquationTrees) → equations_faults declared (names_of loops) xs ≡ [] → EquationsTakeNames known loops xs
    equations_taken loops no_equations none = tt
    equations_taken loops (equation_then x xs) none =
        (equation_taken loops x (first_none (equation_faults declared (names_of loops) x) _ none), equations_taken loops xs (second_none (equation_faults declared (names_of loops) x) _ none))

  mutual
    statement_taken : (loops : List LoopVar) (x : StatementTree) → statement_faults declared (names_of loops) x ≡ [] → StatementTakesNames known loops x
    statement_taken loops (Assign target e) none = sides loops wanted.Discrete true target e none
    statement_taken loops (Restart target e) none = sides loops wanted.State true target e none
    statement_taken loops (EachStatement range body) none = (
      bounds loops range _ none,
      λ i. statements_taken (inside loops range.var i) body
          (subst (λ (names : List (List ℕ)). statements_faults declared names body ≡ []) (names_inside loops range.var i) (second_none (range_faults (name_kind_in (names_of loops) declared) range) _ none)),
    )

    statements_taken : (loops : List LoopVar) (xs : StatementTrees) → statements_faults declared (names_of loops) xs ≡ [] → StatementsTakeNames known loops xs
    statements_taken loops no_statements none = tt
    statements_taken loops (statement_then x xs) none =
        (statement_taken loops x (first_none (statement_faults declared (names_of loops) x) _ none), statements_taken loops xs (second_none (statement_faults declared (names_of loops) x) _ none))

  branch_taken : (loops : List LoopVar) (b : BranchTree) → branch_faults declared (names_of loops) b ≡ [] → BranchTakesNames known loops b
  branch_taken loops b none =
      let standing = name_kind_in (names_of loops) declared in
      let left = expression_faults reading.Clause standing b.condition.left in
      let right = expression_faults reading.Clause standing b.condition.right in
      let more = second_none left _ none in (
        names_taken standing (meant_in loops known) (inside_fit declared known loops fit) true b.condition.left (first_none left _ none),
        names_taken standing (meant_in loops known) (inside_fit declared known loops fit) true b.condition.right (first_none right _ more),
        statements_taken loops (statements_of b.body) (second_none right _ more),
      )

  branches_taken : (loops : List LoopVar) (bs : List BranchTree) → branches_faults declared (names_of loops) bs ≡ [] → BranchesTakeNames known loops bs
  branches_taken loops [] none = tt
  branches_taken loops (b ∷ bs) none =
      (branch_taken loops b (first_none (branch_faults declared (names_of loops) b) _ none), branches_taken loops bs (second_none (branch_faults declared (names_of loops) b) _ none))

  mutual
    clause_taken : (loops : List LoopVar) (c : ClauseTree) → clause_faults declared (names_of loops) c ≡ [] → ClauseTakesNames known loops c
    clause_taken loops (Branches bs) none = branches_taken loops bs none
    clause_taken loops (EachClause range body) none = (
      bounds loops range _ none,
      λ i. clauses_taken (inside loops range.var i) body
          (subst (λ (names : List (List ℕ)). clauses_faults declared names body ≡ []) (names_inside loops range.var i) (second_none (range_faults (name_kind_in (names_of loops) declared) range) _ none)),
    )

    clauses_taken : (loops : List LoopVar) (cs : ClauseTrees) → clauses_faults declared (names_of loops) cs ≡ [] → ClausesTakeNames known loops cs
    clauses_taken loops no_clauses none = tt
    clauses_taken loops (clause_then c cs) none =
        (clause_taken loops c (first_none (clause_faults declared (names_of loops) c) _ none), clauses_taken loops cs (second_none (clause_faults declared (names_of loops) c) _ none))

  mutual
    start_taken : (loops : List LoopVar) (x : StatementTree) → start_faults declared (names_of loops) x ≡ [] → StartTakesConstants known loops x
    start_taken loops (Assign target e) none =
        let standing = name_kind_in (names_of loops) declared in
        let first = reference_faults wanted.Started standing target in (
          index_taken standing (meant_in loops known) (inside_fit declared known loops fit) wanted.Started target (first_none first _ none),
          constants_taken standing (meant_in loops known) (inside_fit declared known loops fit) e (second_none first _ none),
        )
    start_taken loops (Restart target e) none = tt
    start_taken loops (EachStatement range body) none = (
      bounds loops range _ none,
      λ i. starts_taken (inside loops range.var i) body
          (subst (λ (names : List (List ℕ)). starts_faults declared names body ≡ []) (names_inside loops range.var i) (second_none (range_faults (name_kind_in (names_of loops) declared) range) _ none)),
    )

    starts_taken : (loops : List LoopVar) (xs : StatementTrees) → starts_faults declared (names_of loops) xs ≡ [] → StartsTakeConstants known loops xs
    starts_taken loops no_statements none = tt
    starts_taken loops (statement_then x xs) none =
        (start_taken loops x (first_none (start_faults declared (names_of loops) x) _ none), starts_taken loops xs (second_none (start_faults declared (names_of loops) x) _ none))

-- ---- models

pub names_are_taken : NamesAreTaken
names_are_taken tree none =
    let declared = stands.declared_in tree in
    let known = declared_in (scope_of tree).known in
    let after_end = second_none (if bytes_eq tree.name tree.end_name then [] else EndName tree.end_at ∷ []) _ none in
    let after_names = second_none (repeated_faults (derived_in tree) [] tree.decls) _ after_end in
    let of_declarations = first_none (declarations_faults declared no_constants tree.decls) _ after_names in
    let after_declarations = second_none (declarations_faults declared no_constants tree.decls) _ after_names in
    let after_settings = second_none (settings_faults (meaning_in tree) [] tree.settings) _ after_declarations in
    let after_starts = second_none (starts_faults declared [] (statements_of tree.starts)) _ after_settings in
    let of_equations = first_none (equations_faults declared [] (equations_of tree.equations)) _ after_starts in
    let of_clauses = second_none (equations_faults declared [] (equations_of tree.equations)) _ after_starts in
    let one = known_of (settings_in tree).quantum (derived_in tree) declared no_constants tree.decls none_sure of_declarations in
    let fit : AllFit declared known = declared_fit (derived_in tree) tree.decls (scope_of tree).known one in
    record {
      equations = equations_taken declared known fit [] (equations_of tree.equations) of_equations;
      clauses = clauses_taken declared known fit [] (clauses_of tree.clauses) of_clauses;
      starts = starts_taken declared known fit [] (statements_of tree.starts) (first_none (starts_faults declared [] (statements_of tree.starts)) _ after_settings);
    }
