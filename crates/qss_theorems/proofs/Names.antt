-- The names of a machine that a source compiles to: names of the language, or those of elements of arrays.
use Rattle.qss_theorems.proofs.Common
use Common.{[], ℕ, ◌++◌, ◌+◌, ◌<◌, ◌∙◌, ◌∷◌, ◌≡◌, all_known, AllByRecursion, are_tokens, arith}
use Common.{bind_result, Bool, clauses_of, CompilesTo, Declaration, declared_in, discrete_count}
use Common.{DiscreteInfo, drop, each_then, equations_of, false, FlatModelTree, FlatRole, Fraction}
use Common.{get_or as slice_index_or, IfOk, if◌then◌else◌, inl, inr, is_name, IsTrue}
use Common.{IsVariableName, Known, length, length-append, length-map, List, listed, Machine, map}
use Common.{ModelTree, name_of, None, Ok, Option, refl, ResolvedReference, Result, scope_of, Some}
use Common.{state_count, StateInfo, statements_of, subst, suc, sym, symbols, take, true, UnrollErr}
use Common.{zero}
use Rattle.mu_grammar.proofs.ReadBackBodies.{behind_string}
use Rattle.mu_grammar.proofs.ReadBackDeclarations.{GoodDeclaration, head_read, runs_keep}
use Rattle.mu_grammar.proofs.ReadBackSums.{Tokens, tokens_of, behind}
use Rattle.mu_grammar.specs.Grammar.{Symbol}
use Rattle.mu_grammar.specs.ModelGrammar.{IsHead, SpellsModel, model}
use Rattle.mu_names.specs.declared.declared_scope.DeclarationValues.{DeclarationValues}
use Rattle.mu_affine.specs.Rounded.{rounded_discrete, rounded_state}
use Rattle.mu_tree.specs.FlatExpression.{FlatEquationTree, FlatBranchTree, FlatVariable}
use Rattle.mu_tree.specs.declared.flat.FlatRole.TheVariants.{State, Discrete, Algebraic}
use Rattle.mu_unroll.proofs.Stepping.{any_answer}
use Rattle.mu_unroll.specs.Listing.{StartValue, listed_clauses, listed_equations, listed_starts}
use Rattle.mu_unroll.specs.Listing.{started}
use Rattle.mu_unroll.specs.VariablePlaces.{elements_from, has_kind, scalar, scalars_in, scalars_of}
use Rattle.mu_unroll.specs.VariablePlaces.{scalars_of_kind}
use Rattle.mu_unroll.specs.Unrolling.{start_at, with_start}
use Rattle.qss_theorems.proofs.Listings.{is_listing}
use Rattle.mu_unroll.specs.declared.environment.ResolvedReference.TheVariants as found_as

-- ---- the declarations of a parsed model

abbrev IsDeclared : Declaration → Type 0
IsDeclared d = IsTrue (is_name d.name)

good_names : (limit : ℕ) (ds : List Declaration) → AllByRecursion (GoodDeclaration limit) ds → AllByRecursion IsDeclared ds
good_names limit [] good = tt
good_names limit (d ∷ ds) good = (good.0.name.0, good_names limit ds good.1)

spelled_names : (limit : ℕ) (ts : List Symbol) (m : ModelTree) → SpellsModel limit ts m → Tokens ts → AllByRecursion IsDeclared m.decls
spelled_names limit ts m (model {ds = ds} title heads body annotated) all =
    let good = runs_keep (IsHead limit) (AllByRecursion (GoodDeclaration limit)) (head_read limit) heads (behind_string title (behind (behind all))) tt in
    good_names limit ds good.1

-- ---- what is known of them

abbrev IsKnown : Known → Type 0
IsKnown k = IsTrue (is_name k.name)

known_names : (quantum : Fraction) (ders : List (List ℕ)) (ds : List Declaration) (vs : List DeclarationValues) → AllByRecursion IsDeclared ds →
    AllByRecursion IsKnown (all_known quantum ders ds vs)
known_names quantum ders [] vs named = tt
known_names quantum ders (d ∷ ds) [] named = tt
known_names quantum ders (d ∷ ds) (v ∷ vs) named = (named.0, known_names quantum ders ds vs named.1)

-- ---- scalar variables

abbrev IsNamed : FlatVariable → Type 0
IsNamed v = IsVariableName v.name

abbrev AllNamed : List FlatVariable → Type 0
AllNamed vars = AllByRecursion IsNamed vars

all_both : {X : Type 0} (P : X → Type 0) (xs ys : List X) → AllByRecursion P xs → AllByRecursion P ys → AllByRecursion P (xs ++ ys)
all_both P [] ys first second = second
all_both P (x ∷ xs) ys first second = (first.0, all_both P xs ys first.1 second)

elements_named : (kind : FlatRole) (k : Known) (index count : ℕ) → IsKnown k → AllNamed (elements_from kind k index count)
elements_named kind k index zero named = tt
elements_named kind k index (suc count) named = (inr (k.name, index, named, refl), elements_named kind k (index + 1) count named)

of_one_named : (kind : FlatRole) (k : Known) → IsKnown k → AllNamed (scalars_of kind k)
of_one_named kind k named = by_size k.size
  where
    by_size : (o : Option ℕ) → AllNamed (elim o as (λ _. List FlatVariable) [ None ↦ scalar kind k k.name ∷ [] | Some n ↦ elements_from kind k 1 n ])
    by_size None = (inl named, tt)
    by_size (Some n) = elements_named kind k 1 n named

of_kind_named : (kind : FlatRole) (ks : List Known) → AllByRecursion IsKnown ks → AllNamed (scalars_of_kind kind ks)
of_kind_named kind [] named = tt
of_kind_named kind (k ∷ ks) named = by_test (of_kind_named kind ks named.1) (has_kind kind k)
  where
    by_test : AllNamed (scalars_of_kind kind ks) → (t : Bool) → AllNamed (if t then scalars_of kind k ++ scalars_of_kind kind ks else scalars_of_kind kind ks)
    by_test rest true = all_both IsNamed (scalars_of kind k) (scalars_of_kind kind ks) (of_one_named kind k named.0) rest
    by_test rest false = rest

scalars_named : (ks : List Known) → AllByRecursion IsKnown ks → AllNamed (scalars_in ks)
scalars_named ks named =
    all_both IsNamed (scalars_of_kind State ks) (scalars_of_kind Discrete ks ++ scalars_of_kind Algebraic ks) (of_kind_named State ks named)
    (all_both IsNamed (scalars_of_kind Discrete ks) (scalars_of_kind Algebraic ks) (of_kind_named Discrete ks named) (of_kind_named Algebraic ks named))

-- ---- start values change no name

start_named : (vars : List FlatVariable) (v : ℕ) (a : Fraction) → AllNamed vars → AllNamed (start_at vars v a)
start_named [] v a named = tt
start_named (d ∷ ds) zero a named = named
start_named (d ∷ ds) (suc v) a named = (named.0, start_named ds v a named.1)

assigned_named : (vars : List FlatVariable) (target : ResolvedReference) (a : Fraction) → AllNamed vars → AllNamed (with_start vars target a)
assigned_named vars (found_as.Numbered State v) a named = start_named vars v a named
assigned_named vars (found_as.Numbered Discrete v) a named = start_named vars v a named
assigned_named vars (found_as.Numbered Algebraic v) a named = named
assigned_named vars (found_as.Value b) a named = named
assigned_named vars found_as.Unfound a named = named

started_named : (vars : List FlatVariable) (ss : List StartValue) → AllNamed vars → AllNamed (started vars ss)
started_named vars [] named = named
started_named vars (s ∷ ss) named = started_named (with_start vars s.target s.value) ss (assigned_named vars s.target s.value named)

-- ---- the flat model

pub whatever : {A B : Type 0} (Q : B → Type 0) (r : Result A UnrollErr) (next : A → Result B UnrollErr) → ((a : A) → IfOk (next a) Q) → IfOk (bind_result r next) Q
whatever {A} {B} Q r next step = each_then (λ _. Unit {0}) Q r next (any_answer r) (λ a _. step a)

listed_named : (m : ModelTree) (ks : List Known) → AllByRecursion IsKnown ks → IfOk (listed m ks) (λ f. AllNamed f.vars)
listed_named m ks named =
    let Q : FlatModelTree → Type 0 = λ f. AllNamed f.vars in
    let whole : List StartValue → List FlatEquationTree → List (List FlatBranchTree) → Result FlatModelTree UnrollErr =
    λ ss es cs. Ok (record { vars = started (scalars_in ks) ss; equations = es; clauses = cs }) in
    let es = listed_equations (declared_in ks) [] (equations_of m.equations) in
    let cs = listed_clauses (declared_in ks) [] (clauses_of m.clauses) in
    whatever Q (listed_starts (declared_in ks) [] (statements_of m.starts)) (λ ss. bind_result es (λ e. bind_result cs (λ c. whole ss e c))) (λ ss.
    whatever Q es (λ e. bind_result cs (λ c. whole ss e c)) (λ e.
    whatever Q cs (λ c. whole ss e c) (λ c. started_named (scalars_in ks) ss (scalars_named ks named))))

flat_named : (tree : ModelTree) (flat : FlatModelTree) → AllByRecursion IsDeclared tree.decls → listed tree (scope_of tree).known ≡ Ok flat → AllNamed flat.vars
flat_named tree flat named e =
    let P : Result FlatModelTree UnrollErr → Type 0 = λ r. IfOk r (λ f. AllNamed f.vars) in
    subst P e (listed_named tree (scope_of tree).known (known_names _ _ tree.decls _ named))

-- ---- the machine

all_taken : (n : ℕ) (vars : List FlatVariable) → AllNamed vars → AllNamed (take n vars)
all_taken zero vars named = tt
all_taken (suc n) [] named = tt
all_taken (suc n) (v ∷ vars) named = (named.0, all_taken n vars named.1)

all_dropped : (n : ℕ) (vars : List FlatVariable) → AllNamed vars → AllNamed (drop n vars)
all_dropped zero vars named = named
all_dropped (suc n) [] named = tt
all_dropped (suc n) (v ∷ vars) named = all_dropped n vars named.1

states_named : (p k f : ℕ) (vars : List FlatVariable) → AllNamed vars → AllByRecursion IsVariableName (map (λ (s : StateInfo). s.name) (map (rounded_state p k f) vars))
states_named p k f [] named = tt
states_named p k f (v ∷ vars) named = (named.0, states_named p k f vars named.1)

discretes_named : (f : ℕ) (vars : List FlatVariable) → AllNamed vars → AllByRecursion IsVariableName (map (λ (d : DiscreteInfo). d.name) (map (rounded_discrete f) vars))
discretes_named f [] named = tt
discretes_named f (v ∷ vars) named = (named.0, discretes_named f vars named.1)

-- all names of a machine, the states first
abbrev pub names_of : Machine → List (List ℕ)
names_of m = map (λ (s : StateInfo). s.name) m.states ++ map (λ (d : DiscreteInfo). d.name) m.discretes

pub machine_named : (bytes : List ℕ) (m : Machine) → CompilesTo bytes m → AllByRecursion IsVariableName (names_of m)
machine_named bytes m (tree, (tokens, lexed, spelled), (s, (faultless, unrolls, settings), (order, ordered, (forms, are_forms, is)))) =
    let declared = spelled_names 64 (symbols bytes tokens) tree spelled (tokens_of (symbols bytes tokens) (are_tokens bytes tokens lexed)) in
    let vars = flat_named tree s.flat declared (is_listing tree s.flat unrolls) in
    let P : List (List ℕ) → Type 0 = AllByRecursion IsVariableName in
    all_both IsVariableName (map (λ (s : StateInfo). s.name) m.states) (map (λ (d : DiscreteInfo). d.name) m.discretes)
    (subst (λ (xs : List StateInfo). P (map (λ (s : StateInfo). s.name) xs)) (sym is.states) (states_named m.p m.k m.f _ (all_taken _ s.flat.vars vars)))
    (subst (λ (xs : List DiscreteInfo). P (map (λ (d : DiscreteInfo). d.name) xs)) (sym is.discretes) (discretes_named m.f _ (all_taken _ _ (all_dropped _ s.flat.vars vars))))

pub at_place : {X : Type 0} (P : X → Type 0) (xs : List X) (k : ℕ) (d : X) → AllByRecursion P xs → k < length xs → P (slice_index_or xs k d)
at_place P [] k d all h = absurd (omega (arith, h))
at_place P (x ∷ xs) zero d all h = all.0
at_place P (x ∷ xs) (suc k) d all h = at_place P xs k d all.1 (omega (arith, h))

pub at_any_place : {X : Type 0} (P : X → Type 0) (xs : List X) (k : ℕ) (d : X) → AllByRecursion P xs → P d → P (slice_index_or xs k d)
at_any_place P [] k d all other = other
at_any_place P (x ∷ xs) zero d all other = all.0
at_any_place P (x ∷ xs) (suc k) d all other = at_any_place P xs k d all.1 other

names_count : (m : Machine) → length (names_of m) ≡ state_count m + discrete_count m
names_count m =
    length-append (map (λ (s : StateInfo). s.name) m.states) (map (λ (d : DiscreteInfo). d.name) m.discretes)
    ∙ both (length-map m.states (λ (s : StateInfo). s.name)) (length-map m.discretes (λ (d : DiscreteInfo). d.name))
  where
    both : {a b c d : ℕ} → a ≡ c → b ≡ d → a + b ≡ c + d
    both e f = omega (arith, e, f)

pub variable_named : (bytes : List ℕ) (m : Machine) → CompilesTo bytes m → (var : ℕ) → var < state_count m + discrete_count m → IsVariableName (name_of m var)
variable_named bytes m means var h = at_place IsVariableName (names_of m) var [] (machine_named bytes m means) (omega (arith, h, names_count m))
