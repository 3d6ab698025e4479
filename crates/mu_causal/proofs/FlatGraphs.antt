-- The graph of a flat model has the dependencies of its algebraic variables.
use Rattle.mu_causal.proofs.Common
use Common.{[], ℕ, ◌++◌, ◌<◌, ◌∙◌, ◌∷◌, ◌≡◌, All, ap, arith, Bool, Contains, Contains-append_cases}
use Common.{Contains-append_left, Contains-append_right, DependsOn, eq-eqb, false, FlatEquationTree}
use Common.{FlatModelTree, FlatVariable, get_or, get_or as slice_index_or, Global, Graph}
use Common.{if◌then◌else◌, inl, inr, is_known, IsAlgebraic, IsClosed, IsGraphOf, IsOpen, IsUnmarked}
use Common.{length, List, map, names_for, names_of, nat_eq, Needs, refl, slice_get}
use Common.{slice_get_within, Some, subst, suc, sym, true, Vec, zero}
use Rattle.std.proofs.lemmas.Bool.{eqb-true}
use Rattle.mu_tree.specs.declared.flat.FlatRole.{FlatRole}
use Rattle.mu_tree.specs.declared.flat.FlatRole.TheVariants.{State, Discrete, Algebraic}
use Rattle.mu_causal.specs.Dependencies.{IsNumbered}
use Rattle.mu_causal.specs.Flat.{row_for}
use Rattle.mu_causal.proofs.Orders.{SaySame}

-- an equation for v that names w
pub record Source (es : List FlatEquationTree) (v w : ℕ) : Type 0 where
  pub equation : FlatEquationTree
  pub there : Contains es equation
  pub target : equation.target ≡ v
  pub named : Contains (names_of equation.value) w

first_source : (e : FlatEquationTree) (es : List FlatEquationTree) (v w : ℕ) → e.target ≡ v → Contains (names_of e.value) w → Source (e ∷ es) v w
first_source e es v w t c = record { equation = e; there = (0, omega arith, refl); target = t; named = c }

later_source : (e : FlatEquationTree) (es : List FlatEquationTree) (v w : ℕ) → Source es v w → Source (e ∷ es) v w
later_source e es v w s = record { equation = s.equation; there = (suc s.there.0, omega (arith, s.there.1), s.there.2); target = s.target; named = s.named }

-- by the test of the first equation
source_step : (e : FlatEquationTree) (es : List FlatEquationTree) (v w : ℕ) (t : Bool) → nat_eq e.target v ≡ t → (Contains (names_for es v) w → Source es v w) → Contains (if t then names_of e.value ++ names_for es v else names_for es v) w → Source (e ∷ es) v w
source_step e es v w true h rest c = elim (Contains-append_cases (names_of e.value) (names_for es v) w c) [
  | inl here ↦ first_source e es v w (eqb-true e.target v h) here
  | inr later ↦ later_source e es v w (rest later)
]
source_step e es v w false h rest c = later_source e es v w (rest c)

-- a number in the row of a variable is read by an equation for it
source_of : (es : List FlatEquationTree) (v w : ℕ) → Contains (names_for es v) w → Source es v w
source_of [] v w c = absurd (omega (arith, c.1))
source_of (e ∷ es) v w c = source_step e es v w (nat_eq e.target v) refl (source_of es v w) c

-- and the names of each equation for a variable are in its row
named_at : (e : FlatEquationTree) (es : List FlatEquationTree) (v w : ℕ) → e.target ≡ v → Contains (names_of e.value) w → Contains (names_for (e ∷ es) v) w
named_at e es v w t c = rw (eq-eqb e.target v t) (Contains-append_left (names_of e.value) (names_for es v) w c)

named_later : (e : FlatEquationTree) (es : List FlatEquationTree) (v w : ℕ) → Contains (names_for es v) w → Contains (names_for (e ∷ es) v) w
named_later e es v w c = elim (nat_eq e.target v) as (λ (t : Bool). Contains (if t then names_of e.value ++ names_for es v else names_for es v) w) [
  | true ↦ Contains-append_right (names_of e.value) (names_for es v) w c
  | false ↦ c
]

named_in : (es : List FlatEquationTree) (v w k : ℕ) (e : FlatEquationTree) → slice_get es k ≡ Some e → e.target ≡ v → Contains (names_of e.value) w → Contains (names_for es v) w
named_in [] v w k e at t c = absurd (cc)
named_in (x ∷ xs) v w zero e at t c = let same : x ≡ e = cc in subst (λ y. Contains (names_for (y ∷ xs) v) w) (sym same) (named_at e xs v w t c)
named_in (x ∷ xs) v w (suc k) e at t c = named_later x xs v w (named_in xs v w k e at t c)

-- an element is at its position
pub place_in : {A : Type 0} (xs : List A) (x : A) (c : Contains xs x) → slice_get xs c.0 ≡ Some x
place_in {A} xs x (k, lt, e) = at xs x k lt e
  where
    at : (xs : List A) (x : A) (k : ℕ) → k < length xs → get_or xs k x ≡ x → slice_get xs k ≡ Some x
    at [] x k lt e = absurd (omega arith)
    at (y ∷ ys) x zero lt e = ap Some e
    at (y ∷ ys) x (suc k) lt e = at ys x k (omega arith) e

-- the variable at a place
variable_at : (ds : List FlatVariable) (v : ℕ) → v < length ds → (d : FlatVariable) × (slice_get ds v ≡ Some d)
variable_at [] v h = absurd (omega arith)
variable_at (d ∷ ds) zero h = (d, refl)
variable_at (d ∷ ds) (suc v) h = variable_at ds v (omega arith)

-- its mark
mark_at : (ds : List FlatVariable) (v : ℕ) (d : FlatVariable) → slice_get ds v ≡ Some d → slice_index_or (map (λ x. is_known x.role) ds) v false ≡ is_known d.role
mark_at [] v d h = absurd (cc)
mark_at (x ∷ xs) zero d h = let same : x ≡ d = cc in ap (λ y. is_known y.role) same
mark_at (x ∷ xs) (suc v) d h = mark_at xs v d h

-- a role that is not known from the start is algebraic
algebraic_of : (r : FlatRole) → is_known r ≡ false → r ≡ Algebraic
algebraic_of State h = absurd (let f : true ≡ false = h in cc)
algebraic_of Discrete h = absurd (let f : true ≡ false = h in cc)
algebraic_of Algebraic h = refl

-- the marks that a flat model begins with
abbrev pub known_in : FlatModelTree → List Bool
known_in m = map (λ d. is_known d.role) m.vars

-- what is not known is an algebraic variable
is_algebraic : (m : FlatModelTree) (v : ℕ) → v < length m.vars → IsUnmarked (known_in m) v → IsAlgebraic m v
is_algebraic m v h u =
    let d = variable_at m.vars v h in
    record { variable = d.0; at = d.1; role = algebraic_of d.0.role (sym (mark_at m.vars v d.0 d.1) ∙ u) }

unknown : (m : FlatModelTree) (v : ℕ) → IsAlgebraic m v → IsUnmarked (known_in m) v
unknown m v a = mark_at m.vars v a.variable a.at ∙ ap is_known a.role

-- the row of an algebraic variable
row_is : (m : FlatModelTree) (g : Graph) (v : ℕ) (row : Vec ℕ Global) → IsGraphOf m g → IsAlgebraic m v → slice_get g v ≡ Some row → row.items ≡ names_for m.equations v
row_is m g v row is a at = is.rows v a.variable row a.at at ∙ rw a.role refl

-- a row that is there
row_there : (g : Graph) (v : ℕ) → v < length g → (row : Vec ℕ Global) × (slice_get g v ≡ Some row)
row_there [] v h = absurd (omega arith)
row_there (r ∷ rs) zero h = (r, refl)
row_there (r ∷ rs) (suc v) h = row_there rs v (omega arith)

-- the graph has exactly the dependencies
pub says_same : (m : FlatModelTree) (g : Graph) → IsGraphOf m g → IsClosed g → SaySame (IsOpen g (known_in m)) (Needs g (known_in m)) (IsAlgebraic m) (DependsOn m)
says_same m g is closed = record {
  there = λ v o. is_algebraic m v (subst (λ n. v < n) is.same_length o.there) o.unknown;
  back = λ v a. record { there = subst (λ n. v < n) (sym is.same_length) (slice_get_within m.vars v a.variable a.at); unknown = unknown m v a };
  need = λ v w n.
      let there : v < length m.vars = subst (λ n. v < n) is.same_length (slice_get_within g v n.names.row n.names.at) in
      let from : IsAlgebraic m v = is_algebraic m v there n.from_unknown in
      let to : IsAlgebraic m w = is_algebraic m w (subst (λ n. w < n) is.same_length (closed v w n.names)) n.to_unknown in
      let s : Source m.equations v w = source_of m.equations v w (subst (λ xs. Contains xs w) (row_is m g v n.names.row is from n.names.at) n.names.named) in
      record { equation = s.equation; there = s.there; target = s.target; named = s.named; from_algebraic = from; to_algebraic = to };
  need_back = λ v w d.
      let there : v < length g = subst (λ n. v < n) (sym is.same_length) (slice_get_within m.vars v d.from_algebraic.variable d.from_algebraic.at) in
      let row = row_there g v there in
      let named : Contains (names_for m.equations v) w = named_in m.equations v w d.there.0 d.equation (place_in m.equations d.equation d.there) d.target d.named in
      record {
        names = record { row = row.0; at = row.1; named = subst (λ xs. Contains xs w) (sym (row_is m g v row.0 is d.from_algebraic row.1)) named };
        from_unknown = unknown m v d.from_algebraic;
        to_unknown = unknown m w d.to_algebraic;
      };
}

-- the names of a row are variables of the model
row_within : (es : List FlatEquationTree) (n v w : ℕ) → ((e : FlatEquationTree) → Contains es e → All (λ x. x < n) (names_of e.value)) → Contains (names_for es v) w → w < n
row_within es n v w named c =
    let s = source_of es v w c in
    let found : get_or (names_of s.equation.value) s.named.0 w ≡ w = s.named.2 in
    subst (λ x. x < n) found (named s.equation s.there s.named.0 w s.named.1)

-- the graph has only variables of the model
pub closed_of : (m : FlatModelTree) (g : Graph) → IsNumbered m → IsGraphOf m g → IsClosed g
closed_of m g numbered is v w n =
    let there : v < length m.vars = subst (λ n. v < n) is.same_length (slice_get_within g v n.row n.at) in
    let d = variable_at m.vars v there in
    let same : n.row.items ≡ row_for m d.0 v = is.rows v d.0 n.row d.1 n.at in
    let c : Contains (row_for m d.0 v) w = subst (λ xs. Contains xs w) same n.named in
    subst (λ k. w < k) (sym is.same_length) (by_role (is_known d.0.role) c)
  where
    by_role : (t : Bool) → Contains (if t then [] else names_for m.equations v) w → w < length m.vars
    by_role true c = absurd (omega (arith, c.1))
    by_role false c = row_within m.equations (length m.vars) v w numbered.named c
