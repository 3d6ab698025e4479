-- In a model without name errors each item is kept.
use Rattle.qss_theorems.proofs.Common
use Common.{[], ℕ, ℤ, ◌&&◌, ◌++◌, ◌+◌, ◌||◌, ◌∙◌, ◌∷◌, ◌≡◌, Algebraic, all_known, ap, Assign}
use Common.{bind_result, Bool, branch_faults, Branches, branches_faults, BranchTree, bytes_eq}
use Common.{clause_faults, clause_then, clauses_faults, clauses_of, ClauseTree, ClauseTrees}
use Common.{constant_value, constants_in, constants_with, Declaration, declaration_faults}
use Common.{declarations_faults, Declared, declared_in, Derivative, derived_in, Discrete, each_then}
use Common.{EachClause, EachEquation, EachStatement, Element, element_found, EndName}
use Common.{equation_faults, equation_then, equations_faults, equations_of, EquationTree}
use Common.{EquationTrees, Expression, expression_faults, false, FlatRole, found, Fraction, IfOk}
use Common.{if◌then◌else◌, index_in, inside, is_constant, is_same, is_some, is_wanted, kind_of}
use Common.{Known, List, Loop, LoopVar, map, meaning_after, meaning_in, meant_in, Missing, Misused}
use Common.{name_kind_in, NameContext, named_faults, NameDenotation, NameErr, NameKind}
use Common.{NameRequirement, no_clauses, no_constants, no_equations, no_statements, None, not, Ok}
use Common.{Option, Parameter, range_faults, Reference, reference_faults, refl, repeated_faults}
use Common.{ResolvedReference, Restart, Role, scope_of, settings_faults, settings_in, sides_faults}
use Common.{Some, start_faults, starts_faults, State, statement_faults, statement_then}
use Common.{statements_faults, statements_of, StatementTree, StatementTrees, subst, sym, true}
use Common.{Whole, whole, whole_at, whole_found}
use Rattle.std.specs.Prelude.{option_to_list, unwrap_or}
use Rattle.std.proofs.lemmas.List.{map-append}
use Rattle.mu_names.specs.DeclarationFaults.{all_valued}
use Rattle.mu_names.specs.Naming.{wants_loops}
use Rattle.mu_names.specs.DeclaredRoles.{declared_as, first_declared, is_among, role_by, role_of}
use Rattle.mu_tree.specs.FlatExpression.{FlatExpression}
use Rattle.mu_tree.specs.ModelTree.{Algebraic as PlainEquation}
use Rattle.mu_tree.specs.declared.tree.Prefix.{Prefix}
use Rattle.mu_unroll.specs.Flattening.{flattened, number_of_kind}
use Rattle.mu_unroll.specs.VariablePlaces.{count_of_kind, first_meant, first_of_kind, loop_value}
use Rattle.mu_unroll.specs.VariablePlaces.{meant_after}
use Rattle.mu_unroll.specs.Unrolling.{assign_to, equation_for, restart_of}
use Rattle.mu_unroll.specs.declared.environment.ResolvedReference.TheVariants.{Numbered}
use Rattle.qss_theorems.proofs.Names.{whatever}
use Rattle.qss_theorems.proofs.Values.{AreSure, after_sure, first_none, good_parts, none_sure}
use Rattle.qss_theorems.proofs.Values.{second_none, with_sure}
use Rattle.qss_theorems.specs.Items.{BranchesGiveOne, ClauseGivesOne, ClausesGiveOne}
use Rattle.qss_theorems.specs.Items.{EquationGivesOne, EquationsGiveOne, GivesOne, IsStarted}
use Rattle.qss_theorems.specs.Items.{ItemsAreKept, StartIsKept, StartsAreKept, StatementGivesOne}
use Rattle.qss_theorems.specs.Items.{StatementsGiveOne}
use Rattle.mu_names.specs.DeclaredRoles as stands
use Rattle.mu_names.specs.declared.name_kind.NameContext.TheVariants as reading
use Rattle.mu_names.specs.declared.name_kind.NameRequirement.TheVariants as wanted
use Rattle.mu_tree.specs.FlatExpression as flat
use Rattle.mu_tree.specs.declared.flat.FlatRole.TheVariants as flat_role
use Rattle.mu_tree.specs.declared.tree.Prefix.TheVariants as prefixes
use Rattle.mu_unroll.specs.declared.environment.NameDenotation.TheVariants as meant

-- ---- declarations, and what is known of them

-- one by one they have the same name and role, and both are arrays or neither is
abbrev pub AreOfOne : List (List ℕ) → List Declaration → List Known → Type 0
AreOfOne ders [] [] = Unit {0}
AreOfOne ders [] (k ∷ ks) = ⊥
AreOfOne ders (d ∷ ds) [] = ⊥
AreOfOne ders (d ∷ ds) (k ∷ ks) =
    (k.name ≡ d.name) × (k.role ≡ role_of ders d) × (is_some k.size ≡ is_some d.size) × (kind_of (role_of ders d) ≡ None → is_some d.size ≡ false) × AreOfOne ders ds ks

-- a name that is no variable is declared as a constant
constant_role : (prefix : Prefix) (derived : Bool) → kind_of (role_by prefix derived) ≡ None → is_constant prefix ≡ true
constant_role prefixes.Parameter derived e = refl
constant_role prefixes.Constant derived e = refl
constant_role prefixes.Discrete derived e = absurd (cc)
constant_role prefixes.Plain true e = absurd (cc)
constant_role prefixes.Plain false e = absurd (cc)

pub known_of : (quantum : Fraction) (ders : List (List ℕ)) (declared : List ℕ → NameKind) (constants : List ℕ → Option (Option Fraction)) (ds : List Declaration) → AreSure constants →
    declarations_faults declared constants ds ≡ [] → AreOfOne ders ds (all_known quantum ders ds (all_valued declared constants ds))
known_of quantum ders declared constants [] sure e = tt
known_of quantum ders declared constants (d ∷ ds) sure e =
    let means = meaning_after constants declared in
    let good = good_parts means d (after_sure constants declared sure) (first_none (declaration_faults means d) _ e) in
    (refl, refl, good.size, λ none. good.plain (constant_role d.prefix (is_among ders d.name) none), known_of quantum ders declared (constants_with means constants d) ds (with_sure means constants d sure good) (second_none (declaration_faults means d) _ e))

-- ---- what a name is, and what it denotes

-- a name of a kind denotes variables of this kind, and for many where it is an array
abbrev pub FitsKind : Option FlatRole → Bool → NameDenotation → Type 0
FitsKind None array m = (a : Fraction) × (m ≡ meant.Constant a) × (array ≡ false)
FitsKind (Some kind) array m = (first : ℕ) × (size : Option ℕ) × (m ≡ meant.Variable kind first size) × (is_some size ≡ array)

abbrev pub Fits : NameKind → NameDenotation → Type 0
Fits Missing m = Unit {0}
Fits Loop m = (a : Fraction) × (m ≡ meant.Constant a)
Fits (Declared role array) m = FitsKind (kind_of role) array m

abbrev MayFit : Option NameKind → Option NameDenotation → Type 0
MayFit (Some s) (Some m) = Fits s m
MayFit (Some s) None = ⊥
MayFit None m = Unit {0}

after_fits : (all before : List Known) (k : Known) (role : Role) (array : Bool) → k.role ≡ role → is_some k.size ≡ array → (kind_of role ≡ None → array ≡ false) → Fits (Declared role array) (meant_after all before k)
after_fits all before k role array e f plain = subst (λ (r : Role). FitsKind (kind_of r) array (meant_after all before k)) e (by (kind_of k.role) (λ none. plain (ap kind_of (sym e) ∙ none)))
  where
    by : (o : Option FlatRole) → (o ≡ None → array ≡ false) → FitsKind o array (elim o as (λ _. NameDenotation) [ None ↦ meant.Constant k.value | Some kind ↦ meant.Variable kind (first_of_kind kind all + count_of_kind kind before) k.size ])
    by None alone = (k.value, refl, alone refl)
    by (Some kind) alone = (first_of_kind kind all + count_of_kind kind before, k.size, refl, f)

first_fits : (ders : List (List ℕ)) (ds : List Declaration) (all before ks : List Known) (name : List ℕ) → AreOfOne ders ds ks → MayFit (first_declared ders ds name) (first_meant all before ks name)
first_fits ders [] all before [] name one = tt
first_fits ders [] all before (k ∷ ks) name one = absurd one
first_fits ders (d ∷ ds) all before [] name one = absurd one
first_fits ders (d ∷ ds) all before (k ∷ ks) name (same, role, array, plain, rest) =
    by (bytes_eq d.name name) (bytes_eq k.name name) (ap (λ (n : List ℕ). bytes_eq n name) same) (first_fits ders ds all (before ++ k ∷ []) ks name rest)
  where
    by : (a b : Bool) → b ≡ a → MayFit (first_declared ders ds name) (first_meant all (before ++ k ∷ []) ks name) →
        MayFit (if a then Some (Declared (role_of ders d) (is_some d.size)) else first_declared ders ds name) (if b then Some (meant_after all before k) else first_meant all (before ++ k ∷ []) ks name)
    by true true e later = after_fits all before k (role_of ders d) (is_some d.size) role array plain
    by true false e later = absurd (cc)
    by false true e later = absurd (cc)
    by false false e later = later

either_fits : (s : Option NameKind) (m : Option NameDenotation) → MayFit s m → Fits (unwrap_or s Missing) (unwrap_or m meant.Nothing)
either_fits (Some s) (Some m) fits = fits
either_fits (Some s) None fits = absurd fits
either_fits None m fits = tt

-- of all names
abbrev pub AllFit : (List ℕ → NameKind) → (List ℕ → NameDenotation) → Type 0
AllFit declared known = (name : List ℕ) → Fits (declared name) (known name)

pub declared_fit : (ders : List (List ℕ)) (ds : List Declaration) (ks : List Known) → AreOfOne ders ds ks → AllFit (declared_as ders ds) (declared_in ks)
declared_fit ders ds ks one name = either_fits (first_declared ders ds name) (first_meant ks [] ks name) (first_fits ders ds ks [] ks name one)

-- ---- inside loops

abbrev pub names_of : List LoopVar → List (List ℕ)
names_of loops = map (λ (l : LoopVar). l.name) loops

pub inside_fit : (declared : List ℕ → NameKind) (known : List ℕ → NameDenotation) (loops : List LoopVar) → AllFit declared known → AllFit (name_kind_in (names_of loops) declared) (meant_in loops known)
inside_fit declared known loops fit name = by (is_among (names_of loops) name) (loop_value loops name) (agree loops)
  where
    agree : (ls : List LoopVar) → is_among (names_of ls) name ≡ is_some (loop_value ls name)
    agree [] = refl
    agree (l ∷ ls) = on (bytes_eq l.name name) (agree ls)
      where
        on : (same : Bool) → is_among (names_of ls) name ≡ is_some (loop_value ls name) →
            (same || is_among (names_of ls) name) ≡ is_some (if same then Some l.value else loop_value ls name)
        on true e = refl
        on false e = e

    by : (among : Bool) (value : Option Fraction) → among ≡ is_some value →
        Fits (if among then Loop else declared name) (elim value as (λ _. NameDenotation) [ Some a ↦ meant.Constant a | None ↦ known name ])
    by true None e = absurd (cc)
    by true (Some a) e = (a, refl)
    by false None e = fit name
    by false (Some a) e = absurd (cc)

-- ---- left sides

abbrev pub HasKind : FlatRole → ResolvedReference → Type 0
HasKind kind t = (v : ℕ) × (number_of_kind kind t ≡ Some v)

own_kind : (kind : FlatRole) (v : ℕ) → HasKind kind (Numbered kind v)
own_kind flat_role.State v = (v, refl)
own_kind flat_role.Discrete v = (v, refl)
own_kind flat_role.Algebraic v = (v, refl)

-- a place that wants a role wants a variable of this kind, and no loop variable
pub record WantsKind (want : NameRequirement) (kind : FlatRole) : Type 0 where
  pub role : (role : Role) → is_wanted want role ≡ true → kind_of role ≡ Some kind
  pub no_loop : wants_loops want ≡ false

wants_state : WantsKind wanted.State flat_role.State
wants_state = record { role = by; no_loop = refl }
  where
    by : (role : Role) → is_wanted wanted.State role ≡ true → kind_of role ≡ Some flat_role.State
    by State e = refl
    by Discrete e = absurd (cc)
    by Algebraic e = absurd (cc)
    by Parameter e = absurd (cc)

pub wants_discrete : WantsKind wanted.Discrete flat_role.Discrete
wants_discrete = record { role = by; no_loop = refl }
  where
    by : (role : Role) → is_wanted wanted.Discrete role ≡ true → kind_of role ≡ Some flat_role.Discrete
    by Discrete e = refl
    by State e = absurd (cc)
    by Algebraic e = absurd (cc)
    by Parameter e = absurd (cc)

wants_algebraic : WantsKind wanted.Algebraic flat_role.Algebraic
wants_algebraic = record { role = by; no_loop = refl }
  where
    by : (role : Role) → is_wanted wanted.Algebraic role ≡ true → kind_of role ≡ Some flat_role.Algebraic
    by Algebraic e = refl
    by State e = absurd (cc)
    by Discrete e = absurd (cc)
    by Parameter e = absurd (cc)

-- a name that denotes variables of a kind, for many where it has an index
record IsVariableOf (kind : FlatRole) (indexed : Bool) (m : NameDenotation) : Type 0 where
  pub first : ℕ
  pub size : Option ℕ
  pub is : m ≡ meant.Variable kind first size
  pub many : is_some size ≡ indexed

pub same_is : (a b : Bool) → is_same a b ≡ true → a ≡ b
same_is true true e = refl
same_is true false e = absurd (cc)
same_is false true e = absurd (cc)
same_is false false e = refl

-- what a declared name with the expected role denotes
declared_kind : (kind : FlatRole) (o : Option FlatRole) (array indexed : Bool) (m : NameDenotation) → o ≡ Some kind → array ≡ indexed → FitsKind o array m → IsVariableOf kind indexed m
declared_kind kind None array indexed m e same fits = absurd (cc)
declared_kind kind (Some other) array indexed m e same (first, size, is, many) =
    let k : other ≡ kind = cc in
    record { first = first; size = size; is = subst (λ (x : FlatRole). m ≡ meant.Variable x first size) k is; many = many ∙ same }

pub no_misuse : (a b : Bool) (f : NameErr) → (if a && b then [] else f ∷ []) ≡ [] → (a ≡ true) × (b ≡ true)
no_misuse true true f e = (refl, refl)
no_misuse true false f e = absurd (cc)
no_misuse false b f e = absurd (cc)

kind_named : (kind : FlatRole) (want : NameRequirement) → WantsKind want kind → (indexed : Bool) (at : ℕ) (s : NameKind) (m : NameDenotation) → Fits s m → named_faults want indexed at s ≡ [] →
    IsVariableOf kind indexed m
kind_named kind want wants indexed at Missing m fits e = absurd (cc)
kind_named kind want wants indexed at Loop m fits e =
    let never : true ≡ false = sym (no_misuse (wants_loops want) (not indexed) (Misused at) e).0 ∙ wants.no_loop in absurd (cc)
kind_named kind want wants indexed at (Declared role array) m fits e =
    let both = no_misuse (is_wanted want role) (is_same array indexed) (Misused at) e in
    declared_kind kind (kind_of role) array indexed m (wants.role role both.0) (same_is array indexed both.1) fits

whole_kind : (kind : FlatRole) (first : ℕ) (size : Option ℕ) → is_some size ≡ false → HasKind kind (whole_found (meant.Variable kind first size))
whole_kind kind first None e = own_kind kind first
whole_kind kind first (Some n) e = absurd (cc)

element_kind : (kind : FlatRole) (known : List ℕ → NameDenotation) (at : ℕ) (index : Expression) (first : ℕ) (size : Option ℕ) → is_some size ≡ true →
    IfOk (element_found known at index (meant.Variable kind first size)) (HasKind kind)
element_kind kind known at index first None e = absurd (cc)
element_kind kind known at index first (Some n) e =
    whatever (HasKind kind) (constant_value (constants_in known) index) _ (λ a.
    whatever (HasKind kind) (whole_at at a) _ (λ i.
    whatever (HasKind kind) (index_in at n i) _ (λ k. own_kind kind (first + k))))

module _ (standing : List ℕ → NameKind) (known : List ℕ → NameDenotation) (fit : AllFit standing known) where
  pub target_kind : (kind : FlatRole) (want : NameRequirement) → WantsKind want kind → (target : Reference) → reference_faults want standing target ≡ [] → IfOk (found known target) (HasKind kind)
  target_kind kind want wants (Whole name at) e =
      let v = kind_named kind want wants false at (standing name) (known name) (fit name) e in
      subst (λ (m : NameDenotation). HasKind kind (whole_found m)) (sym v.is) (whole_kind kind v.first v.size v.many)
  target_kind kind want wants (Element name index at) e =
      let v = kind_named kind want wants true at (standing name) (known name) (fit name) (first_none (named_faults want true at (standing name)) _ e) in
      subst (λ (m : NameDenotation). IfOk (element_found known at index m) (HasKind kind)) (sym v.is) (element_kind kind known at index v.first v.size v.many)

-- ---- items

item_one : {X : Type 0} (kind : FlatRole) (known : List ℕ → NameDenotation) (target : Reference) (in_clause : Bool) (e : Expression) (make : Option ℕ → FlatExpression → Option X) (item : ℕ → FlatExpression → X) →
    ((v : ℕ) (f : FlatExpression) → make (Some v) f ≡ Some (item v f)) → IfOk (found known target) (HasKind kind) →
    GivesOne (bind_result (found known target) (λ t. bind_result (flattened in_clause known e) (λ f. Ok (option_to_list (make (number_of_kind kind t) f)))))
item_one {X} kind known target in_clause e make item is has =
    let Q : List X → Type 0 = λ xs. (x : X) × (xs ≡ x ∷ []) in
    each_then (HasKind kind) Q (found known target) (λ t. bind_result (flattened in_clause known e) (λ f. Ok (option_to_list (make (number_of_kind kind t) f)))) has (λ t kept.
    whatever Q (flattened in_clause known e) (λ f. Ok (option_to_list (make (number_of_kind kind t) f))) (λ f.
    (item kept.0 f, ap (λ (o : Option ℕ). option_to_list (make o f)) kept.1 ∙ ap option_to_list (is kept.0 f))))

pub names_inside : (loops : List LoopVar) (var : List ℕ) (i : ℤ) → names_of loops ++ var ∷ [] ≡ names_of (inside loops var i)
names_inside loops var i = sym (map-append (λ (l : LoopVar). l.name) loops (record { name = var; value = whole i } ∷ []))

module _ (declared : List ℕ → NameKind) (known : List ℕ → NameDenotation) (fit : AllFit declared known) where
  left_kind : (kind : FlatRole) (want : NameRequirement) → WantsKind want kind → (loops : List LoopVar) (place : NameContext) (target : Reference) (e : Expression) →
      sides_faults want place (name_kind_in (names_of loops) declared) target e ≡ [] → IfOk (found (meant_in loops known) target) (HasKind kind)
  left_kind kind want wants loops place target e none =
      target_kind (name_kind_in (names_of loops) declared) (meant_in loops known) (inside_fit declared known loops fit) kind want wants target
      (first_none (reference_faults want (name_kind_in (names_of loops) declared) target) _ none)

  mutual
    equation_one : (loops : List LoopVar) (e : EquationTree) → equation_faults declared (names_of loops) e ≡ [] → EquationGivesOne known loops e
    equation_one loops (Derivative target e) none =
        item_one flat_role.State (meant_in loops known) target false e (equation_for true) (λ v f. record { der = true; target = v; value = f }) (λ v f. refl)
        (left_kind flat_role.State wanted.State wants_state loops reading.Equation target e none)
    equation_one loops (PlainEquation target e) none =
        item_one flat_role.Algebraic (meant_in loops known) target false e (equation_for false) (λ v f. record { der = false; target = v; value = f }) (λ v f. refl)
        (left_kind flat_role.Algebraic wanted.Algebraic wants_algebraic loops reading.Equation target e none)
    equation_one loops (EachEquation range body) none = λ i.
        equations_one (inside loops range.var i) body
        (subst (λ (names : List (List ℕ)). equations_faults declared names body ≡ []) (names_inside loops range.var i) (second_none (range_faults (name_kind_in (names_of loops) declared) range) _ none))

    equations_one : (loops : List LoopVar) (es : EquationTrees) → equations_faults declared (names_of loops) es ≡ [] → EquationsGiveOne known loops es
    equations_one loops no_equations none = tt
    equations_one loops (equation_then e es) none =
        (equation_one loops e (first_none (equation_faults declared (names_of loops) e) _ none), equations_one loops es (second_none (equation_faults declared (names_of loops) e) _ none))

  mutual
    statement_one : (loops : List LoopVar) (x : StatementTree) → statement_faults declared (names_of loops) x ≡ [] → StatementGivesOne known loops x
    statement_one loops (Assign target e) none =
        item_one flat_role.Discrete (meant_in loops known) target true e assign_to (λ v f. flat.Assign v f) (λ v f. refl)
        (left_kind flat_role.Discrete wanted.Discrete wants_discrete loops reading.Clause target e none)
    statement_one loops (Restart target e) none =
        item_one flat_role.State (meant_in loops known) target true e restart_of (λ v f. flat.Restart v f) (λ v f. refl)
        (left_kind flat_role.State wanted.State wants_state loops reading.Clause target e none)
    statement_one loops (EachStatement range body) none = λ i.
        statements_one (inside loops range.var i) body
        (subst (λ (names : List (List ℕ)). statements_faults declared names body ≡ []) (names_inside loops range.var i) (second_none (range_faults (name_kind_in (names_of loops) declared) range) _ none))

    statements_one : (loops : List LoopVar) (xs : StatementTrees) → statements_faults declared (names_of loops) xs ≡ [] → StatementsGiveOne known loops xs
    statements_one loops no_statements none = tt
    statements_one loops (statement_then x xs) none =
        (statement_one loops x (first_none (statement_faults declared (names_of loops) x) _ none), statements_one loops xs (second_none (statement_faults declared (names_of loops) x) _ none))

  branches_one : (loops : List LoopVar) (bs : List BranchTree) → branches_faults declared (names_of loops) bs ≡ [] → BranchesGiveOne known loops bs
  branches_one loops [] none = tt
  branches_one loops (b ∷ bs) none =
      let here = first_none (branch_faults declared (names_of loops) b) _ none in
      let right = second_none (expression_faults reading.Clause (name_kind_in (names_of loops) declared) b.condition.left) _ here in (
        statements_one loops (statements_of b.body) (second_none (expression_faults reading.Clause (name_kind_in (names_of loops) declared) b.condition.right) _ right),
        branches_one loops bs (second_none (branch_faults declared (names_of loops) b) _ none),
      )

  mutual
    clause_one : (loops : List LoopVar) (c : ClauseTree) → clause_faults declared (names_of loops) c ≡ [] → ClauseGivesOne known loops c
    clause_one loops (Branches bs) none = branches_one loops bs none
    clause_one loops (EachClause range body) none = λ i.
        clauses_one (inside loops range.var i) body
        (subst (λ (names : List (List ℕ)). clauses_faults declared names body ≡ []) (names_inside loops range.var i) (second_none (range_faults (name_kind_in (names_of loops) declared) range) _ none))

    clauses_one : (loops : List LoopVar) (cs : ClauseTrees) → clauses_faults declared (names_of loops) cs ≡ [] → ClausesGiveOne known loops cs
    clauses_one loops no_clauses none = tt
    clauses_one loops (clause_then c cs) none =
        (clause_one loops c (first_none (clause_faults declared (names_of loops) c) _ none), clauses_one loops cs (second_none (clause_faults declared (names_of loops) c) _ none))

-- ---- start values

abbrev IsStartKind : FlatRole → Type 0
IsStartKind flat_role.State = Unit {0}
IsStartKind flat_role.Discrete = Unit {0}
IsStartKind flat_role.Algebraic = ⊥

started_of : (kind : FlatRole) → IsStartKind kind → (v : ℕ) → IsStarted (Numbered kind v)
started_of flat_role.State h v = tt
started_of flat_role.Discrete h v = tt
started_of flat_role.Algebraic h v = absurd h

abbrev IsStartOf : Bool → NameDenotation → Type 0
IsStartOf indexed m = (kind : FlatRole) × IsStartKind kind × IsVariableOf kind indexed m

start_role : (role : Role) (array indexed : Bool) (m : NameDenotation) → is_wanted wanted.Started role ≡ true → array ≡ indexed → FitsKind (kind_of role) array m → IsStartOf indexed m
start_role State array indexed m e same fits = (flat_role.State, tt, declared_kind flat_role.State (Some flat_role.State) array indexed m refl same fits)
start_role Discrete array indexed m e same fits = (flat_role.Discrete, tt, declared_kind flat_role.Discrete (Some flat_role.Discrete) array indexed m refl same fits)
start_role Algebraic array indexed m e same fits = absurd (cc)
start_role Parameter array indexed m e same fits = absurd (cc)

start_named : (indexed : Bool) (at : ℕ) (s : NameKind) (m : NameDenotation) → Fits s m → named_faults wanted.Started indexed at s ≡ [] → IsStartOf indexed m
start_named indexed at Missing m fits e = absurd (cc)
start_named indexed at Loop m fits e = absurd (cc)
start_named indexed at (Declared role array) m fits e =
    let both = no_misuse (is_wanted wanted.Started role) (is_same array indexed) (Misused at) e in
    start_role role array indexed m both.0 (same_is array indexed both.1) fits

whole_start : (kind : FlatRole) → IsStartKind kind → (first : ℕ) (size : Option ℕ) → is_some size ≡ false → IsStarted (whole_found (meant.Variable kind first size))
whole_start kind h first None e = started_of kind h first
whole_start kind h first (Some n) e = absurd (cc)

element_start : (kind : FlatRole) → IsStartKind kind → (known : List ℕ → NameDenotation) (at : ℕ) (index : Expression) (first : ℕ) (size : Option ℕ) → is_some size ≡ true →
    IfOk (element_found known at index (meant.Variable kind first size)) IsStarted
element_start kind h known at index first None e = absurd (cc)
element_start kind h known at index first (Some n) e =
    whatever IsStarted (constant_value (constants_in known) index) _ (λ a.
    whatever IsStarted (whole_at at a) _ (λ i.
    whatever IsStarted (index_in at n i) _ (λ k. started_of kind h (first + k))))

module _ (standing : List ℕ → NameKind) (known : List ℕ → NameDenotation) (fit : AllFit standing known) where
  start_target : (target : Reference) → reference_faults wanted.Started standing target ≡ [] → IfOk (found known target) IsStarted
  start_target (Whole name at) e =
      let v = start_named false at (standing name) (known name) (fit name) e in
      subst (λ (m : NameDenotation). IsStarted (whole_found m)) (sym v.2.is) (whole_start v.0 v.1 v.2.first v.2.size v.2.many)
  start_target (Element name index at) e =
      let v = start_named true at (standing name) (known name) (fit name) (first_none (named_faults wanted.Started true at (standing name)) _ e) in
      subst (λ (m : NameDenotation). IfOk (element_found known at index m) IsStarted) (sym v.2.is) (element_start v.0 v.1 known at index v.2.first v.2.size v.2.many)

module _ (declared : List ℕ → NameKind) (known : List ℕ → NameDenotation) (fit : AllFit declared known) where
  mutual
    start_kept : (loops : List LoopVar) (x : StatementTree) → start_faults declared (names_of loops) x ≡ [] → StartIsKept known loops x
    start_kept loops (Assign target e) none =
        start_target (name_kind_in (names_of loops) declared) (meant_in loops known) (inside_fit declared known loops fit) target
        (first_none (reference_faults wanted.Started (name_kind_in (names_of loops) declared) target) _ none)
    start_kept loops (Restart target e) none = tt
    start_kept loops (EachStatement range body) none = λ i.
        starts_kept (inside loops range.var i) body
        (subst (λ (names : List (List ℕ)). starts_faults declared names body ≡ []) (names_inside loops range.var i) (second_none (range_faults (name_kind_in (names_of loops) declared) range) _ none))

    starts_kept : (loops : List LoopVar) (xs : StatementTrees) → starts_faults declared (names_of loops) xs ≡ [] → StartsAreKept known loops xs
    starts_kept loops no_statements none = tt
    starts_kept loops (statement_then x xs) none =
        (start_kept loops x (first_none (start_faults declared (names_of loops) x) _ none), starts_kept loops xs (second_none (start_faults declared (names_of loops) x) _ none))

-- ---- models

pub items_are_kept : ItemsAreKept
items_are_kept tree none =
    let declared = stands.declared_in tree in
    let known = declared_in (scope_of tree).known in
    let after_end = second_none (if bytes_eq tree.name tree.end_name then [] else EndName tree.end_at ∷ []) _ none in
    let after_names = second_none (repeated_faults (derived_in tree) [] tree.decls) _ after_end in
    let of_declarations = first_none (declarations_faults declared no_constants tree.decls) _ after_names in
    let after_declarations = second_none (declarations_faults declared no_constants tree.decls) _ after_names in
    let after_settings = second_none (settings_faults (meaning_in tree) [] tree.settings) _ after_declarations in
    let after_starts = second_none (starts_faults declared [] (statements_of tree.starts)) _ after_settings in
    let of_equations = first_none (equations_faults declared [] (equations_of tree.equations)) _ after_starts in
    let of_clauses = second_none (equations_faults declared [] (equations_of tree.equations)) _ after_starts in
    let one = known_of (settings_in tree).quantum (derived_in tree) declared no_constants tree.decls none_sure of_declarations in
    let fit : AllFit declared known = declared_fit (derived_in tree) tree.decls (scope_of tree).known one in
    record {
      equations = equations_one declared known fit [] (equations_of tree.equations) of_equations;
      clauses = clauses_one declared known fit [] (clauses_of tree.clauses) of_clauses;
      starts = starts_kept declared known fit [] (statements_of tree.starts) (first_none (starts_faults declared [] (statements_of tree.starts)) _ after_settings);
    }
