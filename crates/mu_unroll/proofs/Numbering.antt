-- The roles of the scalar variables by number, and the variables that names stand for.
use Rattle.mu_unroll.proofs.Common
use Common.{[], ℕ, ◌++◌, ◌+◌, ◌<◌, ◌∙◌, ◌∷◌, ◌≡◌, ◌≤◌, Algebraic, ap, append-nil, ap₂, arith, Bool}
use Common.{Constant, count_of_kind, declared_in, Discrete, elements_from, false, first_of_kind}
use Common.{FlatRole, FlatVariable, Fraction, get_or as slice_index_or, has_kind, HasRole}
use Common.{if◌then◌else◌, kind_of, Known, length, length-append, List, loop_value, LoopVar, map}
use Common.{map-append, meant_after, meant_in, NameDenotation, None, Nothing, Option, refl, scalar}
use Common.{scalars_in, scalars_of_kind, slice_get, Some, State, subst, suc, sym, true, Variable}
use Common.{width, zero}
use Rattle.std.proofs.Common.{replicate, le_trans, le_refl}
use Rattle.std.specs.List.Sorted.{IsNonDecreasing}
use Rattle.std.proofs.lemmas.List.{replicate-append-replicate, length-replicate}
use Rattle.mu_tree.specs.FlatModels.{rank}
use Rattle.mu_unroll.specs.VariablePlaces.{scalars_of}
use Rattle.mu_unroll.proofs.Placing.{declared_have, room_for}

-- the roles of variables
abbrev pub roles_of : List FlatVariable → List FlatRole
roles_of vars = map (λ (v : FlatVariable). v.role) vars

-- the roles of these numbers of states, discrete variables and algebraic variables, in this order
abbrev pub in_kinds : (states discretes algebraics : ℕ) → List FlatRole
in_kinds s d a = replicate s State ++ (replicate d Discrete ++ replicate a Algebraic)

-- the elements of an array have one role
elements_roles : (kind : FlatRole) (k : Known) (index count : ℕ) → roles_of (elements_from kind k index count) ≡ replicate count kind
elements_roles kind k index zero = refl
elements_roles kind k index (suc count) = ap (λ rs. kind ∷ rs) (elements_roles kind k (index + 1) count)

-- and so have the variables of a name
scalars_roles : (kind : FlatRole) (k : Known) → roles_of (scalars_of kind k) ≡ replicate (width k.size) kind
scalars_roles kind k = by_size k.size
  where
    by_size : (o : Option ℕ) → roles_of (elim o as (λ _. List FlatVariable) [ None ↦ scalar kind k k.name ∷ [] | Some n ↦ elements_from kind k 1 n ]) ≡ replicate (width o) kind
    by_size None = refl
    by_size (Some n) = elements_roles kind k 1 n

-- and all variables of a kind
kind_roles : (kind : FlatRole) (ks : List Known) → roles_of (scalars_of_kind kind ks) ≡ replicate (count_of_kind kind ks) kind
kind_roles kind [] = refl
kind_roles kind (k ∷ ks) = by_test (has_kind kind k) (kind_roles kind ks)
  where
    by_test : (t : Bool) → roles_of (scalars_of_kind kind ks) ≡ replicate (count_of_kind kind ks) kind
        → roles_of (if t then scalars_of kind k ++ scalars_of_kind kind ks else scalars_of_kind kind ks) ≡ replicate (if t then width k.size + count_of_kind kind ks else count_of_kind kind ks) kind
    by_test true e =
        map-append (λ (v : FlatVariable). v.role) (scalars_of kind k) (scalars_of_kind kind ks)
        ∙ ap₂ (λ xs ys. xs ++ ys) (scalars_roles kind k) e
        ∙ replicate-append-replicate (width k.size) (count_of_kind kind ks) kind
    by_test false e = e

-- the states come first, then the discrete and then the algebraic variables
pub all_roles : (ks : List Known) → roles_of (scalars_in ks) ≡ in_kinds (count_of_kind State ks) (count_of_kind Discrete ks) (count_of_kind Algebraic ks)
all_roles ks =
    map-append (λ (v : FlatVariable). v.role) (scalars_of_kind State ks) (scalars_of_kind Discrete ks ++ scalars_of_kind Algebraic ks)
    ∙ ap₂ (λ xs ys. xs ++ ys) (kind_roles State ks)
    (map-append (λ (v : FlatVariable). v.role) (scalars_of_kind Discrete ks) (scalars_of_kind Algebraic ks) ∙ ap₂ (λ xs ys. xs ++ ys) (kind_roles Discrete ks) (kind_roles Algebraic ks))

-- how many there are
pub length_in_kinds : (s d a : ℕ) → length (in_kinds s d a) ≡ s + (d + a)
length_in_kinds s d a =
    length-append (replicate s State) (replicate d Discrete ++ replicate a Algebraic)
    ∙ ap₂ (λ n k. n + k) (length-replicate s State) (length-append (replicate d Discrete) (replicate a Algebraic) ∙ ap₂ (λ n k. n + k) (length-replicate d Discrete) (length-replicate a Algebraic))

-- elements of lists that are joined
get_same : (n i : ℕ) (r : FlatRole) (rest : List FlatRole) → i < n → slice_get (replicate n r ++ rest) i ≡ Some r
get_same zero i r rest h = absurd (omega arith)
get_same (suc n) zero r rest h = refl
get_same (suc n) (suc i) r rest h = get_same n i r rest (omega arith)

get_later : (n i j : ℕ) (r : FlatRole) (rest : List FlatRole) → i ≡ n + j → slice_get (replicate n r ++ rest) i ≡ slice_get rest j
get_later zero i j r rest h = let e : i ≡ j = omega arith in ap (slice_get rest) e
get_later (suc n) zero j r rest h = absurd (omega arith)
get_later (suc n) (suc i) j r rest h = get_later n i j r rest (omega arith)

get_last : (n i : ℕ) (r : FlatRole) → i < n → slice_get (replicate n r) i ≡ Some r
get_last zero i r h = absurd (omega arith)
get_last (suc n) zero r h = refl
get_last (suc n) (suc i) r h = get_last n i r (omega arith)

-- the variables of a kind stand from the first one of it on
kind_at : (ks : List Known) (kind : FlatRole) (i j : ℕ) → i ≡ first_of_kind kind ks + j → j < count_of_kind kind ks → slice_get (in_kinds (count_of_kind State ks) (count_of_kind Discrete ks) (count_of_kind Algebraic ks)) i ≡ Some kind
kind_at ks State i j e h = get_same (count_of_kind State ks) i State (replicate (count_of_kind Discrete ks) Discrete ++ replicate (count_of_kind Algebraic ks) Algebraic) (omega arith)
kind_at ks Discrete i j e h =
    get_later (count_of_kind State ks) i j State (replicate (count_of_kind Discrete ks) Discrete ++ replicate (count_of_kind Algebraic ks) Algebraic) (omega arith)
    ∙ get_same (count_of_kind Discrete ks) j Discrete (replicate (count_of_kind Algebraic ks) Algebraic) h
kind_at ks Algebraic i j e h =
    get_later (count_of_kind State ks) i (count_of_kind Discrete ks + j) State (replicate (count_of_kind Discrete ks) Discrete ++ replicate (count_of_kind Algebraic ks) Algebraic) (omega arith)
    ∙ get_later (count_of_kind Discrete ks) (count_of_kind Discrete ks + j) j Discrete (replicate (count_of_kind Algebraic ks) Algebraic) refl
    ∙ get_last (count_of_kind Algebraic ks) j Algebraic h

-- a variable by its role
pub role_at : (vars : List FlatVariable) (v : ℕ) (kind : FlatRole) → slice_get (roles_of vars) v ≡ Some kind → HasRole vars v kind
role_at [] v kind e = absurd (cc)
role_at (d ∷ ds) zero kind e = record { variable = d; at = refl; is = cc }
role_at (d ∷ ds) (suc v) kind e = let h = role_at ds v kind e in record { variable = h.variable; at = h.at; is = h.is }

-- is one of the variables
pub below_all : (vars : List FlatVariable) (v : ℕ) (kind : FlatRole) → slice_get (roles_of vars) v ≡ Some kind → v < length vars
below_all [] v kind e = absurd (cc)
below_all (d ∷ ds) zero kind e = omega arith
below_all (d ∷ ds) (suc v) kind e = omega (arith, below_all ds v kind e)

-- the variables of a name have its role
abbrev pub PointsTo : List FlatRole → NameDenotation → Type 0
PointsTo rs (Constant a) = Unit {0}
PointsTo rs (Variable kind first size) = (i : ℕ) → i < width size → slice_get rs (first + i) ≡ Some kind
PointsTo rs Nothing = Unit {0}

abbrev pub AllPoint : List FlatRole → (List ℕ → NameDenotation) → Type 0
AllPoint rs known = (name : List ℕ) → PointsTo rs (known name)

point_one : (all before rest : List Known) (k : Known) → all ≡ before ++ k ∷ rest → PointsTo (in_kinds (count_of_kind State all) (count_of_kind Discrete all) (count_of_kind Algebraic all)) (meant_after all before k)
point_one all before rest k e = by_kind (kind_of k.role) refl
  where
    by_kind : (o : Option FlatRole) → kind_of k.role ≡ o → PointsTo (in_kinds (count_of_kind State all) (count_of_kind Discrete all) (count_of_kind Algebraic all)) (elim o as (λ _. NameDenotation) [ None ↦ Constant k.value | Some kind ↦ Variable kind (first_of_kind kind all + count_of_kind kind before) k.size ])
    by_kind None is = tt
    by_kind (Some kind) is = λ i h.
        kind_at all kind ((first_of_kind kind all + count_of_kind kind before) + i) (count_of_kind kind before + i) (omega arith) (omega (arith, room_for all before rest k kind e is))

-- each declared name denotes variables with its role
pub all_point : (ks : List Known) → AllPoint (roles_of (scalars_in ks)) (declared_in ks)
all_point ks =
    subst (λ rs. AllPoint rs (declared_in ks)) (sym (all_roles ks))
    (declared_have (PointsTo (in_kinds (count_of_kind State ks) (count_of_kind Discrete ks) (count_of_kind Algebraic ks))) ks tt (λ before rest k e. point_one ks before rest k e))

-- and so does each name inside loops
pub points_inside : (rs : List FlatRole) (loops : List LoopVar) (declared : List ℕ → NameDenotation) → AllPoint rs declared → AllPoint rs (meant_in loops declared)
points_inside rs loops declared p name = by_loop (loop_value loops name)
  where
    by_loop : (o : Option Fraction) → PointsTo rs (elim o as (λ _. NameDenotation) [ Some a ↦ Constant a | None ↦ declared name ])
    by_loop (Some a) = tt
    by_loop None = p name

-- numbers that do not decrease, from a least one on
abbrev Rises : ℕ → List ℕ → Type 0
Rises low [] = Unit {0}
Rises low (x ∷ xs) = (low ≤ x) × Rises x xs

rises_lower : (low x : ℕ) (xs : List ℕ) → low ≤ x → Rises x xs → Rises low xs
rises_lower low x [] h r = tt
rises_lower low x (y ∷ ys) h r = (le_trans h r.0, r.1)

rises_same : (n low x : ℕ) (ys : List ℕ) → low ≤ x → Rises x ys → Rises low (replicate n x ++ ys)
rises_same zero low x ys h r = rises_lower low x ys h r
rises_same (suc n) low x ys h r = (h, rises_same n x x ys (le_refl x) r)

rises_least : (low : ℕ) (xs : List ℕ) (j d : ℕ) → Rises low xs → j < length xs → low ≤ slice_index_or xs j d
rises_least low [] j d r h = absurd (omega arith)
rises_least low (x ∷ xs) zero d r h = r.0
rises_least low (x ∷ xs) (suc j) d r h = le_trans r.0 (rises_least x xs j d r.1 (omega arith))

rises_in_order : (low : ℕ) (xs : List ℕ) → Rises low xs → IsNonDecreasing xs
rises_in_order low [] r = λ i j d e h. absurd (omega arith)
rises_in_order low (x ∷ xs) r = at (rises_in_order x xs r.1)
  where
    at : IsNonDecreasing xs → IsNonDecreasing (x ∷ xs)
    at rest zero zero d e h = le_refl x
    at rest zero (suc j) d e h = rises_least x xs j d r.1 (omega arith)
    at rest (suc i) zero d e h = absurd (omega arith)
    at rest (suc i) (suc j) d e h = rest i j d (omega arith) (omega arith)

ranks_same : (n : ℕ) (r : FlatRole) → map rank (replicate n r) ≡ replicate n (rank r)
ranks_same zero r = refl
ranks_same (suc n) r = ap (λ rs. rank r ∷ rs) (ranks_same n r)

ranks_by_roles : (vars : List FlatVariable) → map rank (roles_of vars) ≡ map (λ (v : FlatVariable). rank v.role) vars
ranks_by_roles [] = refl
ranks_by_roles (v ∷ vs) = ap (λ rs. rank v.role ∷ rs) (ranks_by_roles vs)

-- the variables stand in order
pub in_order : (vars : List FlatVariable) (s d a : ℕ) → roles_of vars ≡ in_kinds s d a → IsNonDecreasing (map (λ (v : FlatVariable). rank v.role) vars)
in_order vars s d a e =
    let ranks : map rank (in_kinds s d a) ≡ replicate s 0 ++ (replicate d 1 ++ (replicate a 2 ++ [])) =
    map-append rank (replicate s State) (replicate d Discrete ++ replicate a Algebraic)
    ∙ ap₂ (λ xs ys. xs ++ ys) (ranks_same s State)
    (map-append rank (replicate d Discrete) (replicate a Algebraic) ∙ ap₂ (λ xs ys. xs ++ ys) (ranks_same d Discrete) (ranks_same a Algebraic ∙ sym (append-nil (replicate a 2)))) in
    let rises : Rises 0 (replicate s 0 ++ (replicate d 1 ++ (replicate a 2 ++ []))) =
    rises_same s 0 0 (replicate d 1 ++ (replicate a 2 ++ [])) (omega arith)
    (rises_same d 0 1 (replicate a 2 ++ []) (omega arith) (rises_same a 1 2 [] (omega arith) tt)) in
    subst IsNonDecreasing (ranks_by_roles vars) (subst IsNonDecreasing (ap (map rank) (sym e)) (subst IsNonDecreasing (sym ranks) (rises_in_order 0 (replicate s 0 ++ (replicate d 1 ++ (replicate a 2 ++ []))) rises)))
