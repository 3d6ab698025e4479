-- Rows of a dependency graph, to which equations are added one by one.
use Rattle.mu_causal.proofs.Common
use Common.{[], ℕ, ◌++◌, ◌+◌, ◌<◌, ◌∙◌, ◌∷◌, ◌≡◌, ◌≢◌, ◌≤◌, add-one, AddsEquation, ap, append-nil}
use Common.{Bool, cases_Bool, cases_eq, drop, drop-cons, eq-eqb, false, flat_equation, FlatEquation}
use Common.{FlatEquationTree, FlatModelTree, FlatVariable, get_or, get_or-set_other}
use Common.{get_or-set_same, Global, Graph, if◌then◌else◌, inl, inr, is_known, IsGraphOf, length}
use Common.{length-map, List, map, names_for, names_of, nat_eq, open_names, refl, row_at, set}
use Common.{slice_get, Some, suc, sym, true, Vec, zero}
use Rattle.std.proofs.lemmas.Bool.{ne_eqb}
use Rattle.std.proofs.lemmas.List.{get_or_past, get_or-map, map-set, length-set}

abbrev items_of : Vec ℕ Global → List ℕ
items_of row = row.items

-- an equation whose target is known or no variable adds nothing
adds_nothing : (known : List Bool) (e : FlatEquationTree) (v : ℕ) → get_or known e.target true ≡ true →
    open_names known (e ∷ []) v ≡ []
adds_nothing known e v is = elim (cases_Bool (get_or known v true)) [
  | inl shut ↦ rw shut refl
  | inr still ↦
      let other : e.target ≢ v = λ same.
      let f : true ≡ false = sym is ∙ ap (λ w. get_or known w true) same ∙ still in cc in
      rw (still, ne_eqb e.target v other) refl
]

pub unchanged : (known : List Bool) (e : FlatEquationTree) (g : Graph) →
    get_or known e.target true ≡ true → AddsEquation known e g g
unchanged known e g is = record {
  same_length = refl;
  rows = λ v.
      sym (append-nil (row_at g v))
      ∙ ap (λ more. row_at g v ++ more) (sym (adds_nothing known e v is));
}

-- no variable has a number past the end
pub known_past : (known : List Bool) (v : ℕ) → length known ≤ v → get_or known v true ≡ true
known_past known v past = get_or_past known v true past

-- the names are appended to the row of the target
pub appended : (known : List Bool) (e : FlatEquationTree) (g : Graph) (old new : Vec ℕ Global) →
    e.target < length g → get_or known e.target true ≡ false → old ≡ get_or g e.target old →
    new.items ≡ old.items ++ names_of e.value → AddsEquation known e g (set g e.target new)
appended known e g old new inside unknown at more = record {
  same_length = length-set g e.target new;
  rows = λ v. elim (cases_eq v e.target) [
    | inl same ↦ by_target v same
    | inr other ↦
        rw (map-set items_of g e.target new)
        (get_or-set_other (map items_of g) e.target v new.items [] other
        ∙ sym (append-nil (row_at g v)) ∙ ap (λ names. row_at g v ++ names) (sym (nothing v other)))
  ];
}
  where
    nothing : (v : ℕ) → v ≢ e.target → open_names known (e ∷ []) v ≡ []
    nothing v other = elim (cases_Bool (get_or known v true)) [
      | inl shut ↦ rw shut refl
      | inr still ↦ rw (still, ne_eqb e.target v (λ same. other (sym same))) refl
    ]

    here : row_at (set g e.target new) e.target ≡ row_at g e.target ++ names_of e.value
    here =
        let within : e.target < length (map items_of g) = rw (length-map g items_of) inside in
        let was : row_at g e.target ≡ old.items =
        get_or-map items_of g e.target old [] inside ∙ ap items_of (sym at) in
        rw (map-set items_of g e.target new)
        (get_or-set_same (map items_of g) e.target new.items [] within ∙ more
        ∙ ap (λ names. names ++ names_of e.value) (sym was))

    added : open_names known (e ∷ []) e.target ≡ names_of e.value
    added = rw (unknown, eq-eqb e.target e.target refl) (append-nil (names_of e.value))

    by_target : (v : ℕ) → v ≡ e.target →
        row_at (set g e.target new) v ≡ row_at g v ++ open_names known (e ∷ []) v
    by_target v same = rw same (here ∙ ap (λ names. row_at g e.target ++ names) (sym added))

-- one equation and the rest
pub open_names-cons : (known : List Bool) (e : FlatEquationTree) (es : List FlatEquationTree) (v : ℕ) →
    open_names known (e ∷ []) v ++ open_names known es v ≡ open_names known (e ∷ es) v
open_names-cons known e es v = elim (cases_Bool (get_or known v true)) [
  | inl shut ↦ rw shut refl
  | inr still ↦ rw still (by_test (nat_eq e.target v))
]
  where
    by_test : (t : Bool) → (if t then names_of e.value ++ [] else []) ++ names_for es v
        ≡ (if t then names_of e.value ++ names_for es v else names_for es v)
    by_test true = ap (λ names. names ++ names_for es v) (append-nil (names_of e.value))
    by_test false = refl

-- nothing is left
pub open_names-nil : (known : List Bool) (v : ℕ) → open_names known [] v ≡ []
open_names-nil known v = elim (cases_Bool (get_or known v true)) [
  | inl shut ↦ rw shut refl
  | inr still ↦ rw still refl
]

-- the equations from a place on
pub equations_from : (es : List FlatEquation) (i : ℕ) (e : FlatEquation) → i < length es →
    e ≡ get_or es i e →
    map flat_equation (drop i es) ≡ flat_equation e ∷ map flat_equation (drop (i + 1) es)
equations_from es i e inside is = rw (add-one, drop-cons es i e inside, ← is) refl

-- the mark of a variable
mark_at : (ds : List FlatVariable) (v : ℕ) (d : FlatVariable) → slice_get ds v ≡ Some d →
    get_or (map (λ x. is_known x.role) ds) v true ≡ is_known d.role
mark_at [] v d h = absurd (cc)
mark_at (x ∷ xs) zero d h = let same : x ≡ d = cc in ap (λ y. is_known y.role) same
mark_at (x ∷ xs) (suc v) d h = mark_at xs v d h

-- the row that is there
row_is : (g : Graph) (v : ℕ) (row : Vec ℕ Global) → slice_get g v ≡ Some row → row_at g v ≡ row.items
row_is [] v row h = absurd (cc)
row_is (x ∷ xs) zero row h = let same : x ≡ row = cc in ap items_of same
row_is (x ∷ xs) (suc v) row h = row_is xs v row h

-- whole rows are those of the graph of the model
pub graph_of : (m : FlatModelTree) (g : Graph) (known : List Bool) →
    known ≡ map (λ x. is_known x.role) m.vars → length g ≡ length known →
    ((v : ℕ) → row_at g v ≡ open_names known m.equations v) → IsGraphOf m g
graph_of m g known marks many rows = record {
  same_length = many ∙ ap length marks ∙ length-map m.vars (λ x. is_known x.role);
  rows = λ v d row at_d at_row.
      sym (row_is g v row at_row) ∙ rows v
      ∙ ap (λ (b : Bool). if b then [] else names_for m.equations v)
      (ap (λ bs. get_or bs v true) marks ∙ mark_at m.vars v d at_d);
}
