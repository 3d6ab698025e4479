-- Constant folding of expressions: parts with short indices.
use Rattle.mu_unroll.proofs.Common
use Common.{[], ℕ, ◌++◌, ◌+◌, ◌<◌, ◌∙◌, ◌∷◌, ◌≡◌, add-one, ap, arith, bind_result, Bool, Err}
use Common.{Expression, expression, factor_nodes, factors_of, FlatExpression, FlatScaled}
use Common.{FlatSigned, flattened, flattened_factors, flattened_terms, get_or, IsSameExpression}
use Common.{IsSameFactors, IsSameTerms, length, List, map, map-append, meant_in, NameDenotation}
use Common.{node_count, Ok, Reference, refl, Result, scaled, signed, subst, sym, take, take-suc}
use Common.{term_nodes, terms_of, UnrollErr}
use Rattle.mu_unroll.specs.ConstantFolding.{IsSameFlat}
use Rattle.mu_tree.specs.Expression.{Scaled, Signed, expression_step, reference_step, scaled_step}
use Rattle.mu_tree.specs.Expression.{signed_step}
use Rattle.mu_tree.specs.declared.expr.Expr.{Expr}
use Rattle.mu_tree.specs.declared.expr.Factor.{Factor, fold-roll-Factor, fold_out-Factor}
use Rattle.mu_tree.specs.declared.expr.Factor.{out-Factor, roll-Factor}
use Rattle.mu_tree.specs.declared.expr.Term.{Term, fold-roll-Term, fold_out-Term, out-Term}
use Rattle.mu_tree.specs.declared.expr.Term.{roll-Term}

-- the results of the items of a list
record IsListed {S T : Type 0} (value : S → Result FlatExpression UnrollErr)
    (made : S → FlatExpression → T) (all : List S → Result (List T) UnrollErr) : Type 0 where
  pub none : all [] ≡ Ok []
  pub more : (x : S) (xs : List S)
      → all (x ∷ xs) ≡ bind_result (value x) (λ f. bind_result (all xs) (λ fs. Ok (made x f ∷ fs)))

reordered : {T : Type 0} (r s : Result FlatExpression UnrollErr) (t : Result (List T) UnrollErr)
    (one other : FlatExpression → T)
    → bind_result r (λ g. bind_result (bind_result t (λ fs. bind_result s (λ f. Ok (fs ++ other f ∷
    []))))
    (λ gs. Ok (one g ∷ gs)))
    ≡ bind_result (bind_result r (λ g. bind_result t (λ gs. Ok (one g ∷ gs))))
    (λ fs. bind_result s (λ f. Ok (fs ++ other f ∷ [])))
reordered {T} (Err e) s t one other = refl
reordered {T} (Ok g) s (Err e) one other = refl
reordered {T} (Ok g) (Err e) (Ok fs) one other = refl
reordered {T} (Ok g) (Ok f) (Ok fs) one other = refl

all_append : {S T : Type 0} (value : S → Result FlatExpression UnrollErr)
    (made : S → FlatExpression → T) (all : List S → Result (List T) UnrollErr)
    → IsListed value made all → (xs : List S) (x : S)
    → all (xs ++ x ∷ [])
    ≡ bind_result (all xs) (λ fs. bind_result (value x) (λ f. Ok (fs ++ made x f ∷ [])))
all_append {S} {T} value made all is [] x =
    is.more x [] ∙ ap (λ r. bind_result (value x) (λ f. bind_result r (λ fs. Ok (made x f ∷ fs))))
    is.none
    ∙ sym (ap (λ r. bind_result r (λ fs. bind_result (value x) (λ f. Ok (fs ++ made x f ∷ []))))
    is.none)
all_append {S} {T} value made all is (y ∷ ys) x =
    is.more y (ys ++ x ∷ [])
    ∙ ap (λ r. bind_result (value y) (λ g. bind_result r (λ gs. Ok (made y g ∷ gs))))
    (all_append value made all is ys x)
    ∙ reordered (value y) (value x) (all ys) (made y) (made x)
    ∙ sym (ap (λ r. bind_result r (λ fs. bind_result (value x) (λ f. Ok (fs ++ made x f ∷ []))))
    (is.more y ys))

-- one more item
all_pushed : {S T : Type 0} (value : S → Result FlatExpression UnrollErr)
    (made : S → FlatExpression → T) (all : List S → Result (List T) UnrollErr)
    → IsListed value made all → (xs ys : List S) (x y : S) → all xs ≡ all ys → value x ≡ value y
    → made x ≡ made y → all (xs ++ x ∷ []) ≡ all (ys ++ y ∷ [])
all_pushed {S} {T} value made all is xs ys x y before last same =
    all_append value made all is xs x
    ∙ ap (λ r. bind_result r (λ fs. bind_result (value x) (λ f. Ok (fs ++ made x f ∷ [])))) before
    ∙ ap (λ r. bind_result (all ys) (λ fs. bind_result r (λ f. Ok (fs ++ made x f ∷ [])))) last
    ∙ ap (λ (m : FlatExpression → T).
    bind_result (all ys) (λ fs. bind_result (value y) (λ f. Ok (fs ++ m f ∷ [])))) same
    ∙ sym (all_append value made all is ys y)

-- one more copy of a part, where `of` makes parts of a list, and `whole` the flat part of a part
parts_pushed : {T S P F : Type 0} (part : T → S) (of : List S → P) (value : S → Expression)
    (whole : S → FlatExpression → F)
    (flat : Bool → (List ℕ → NameDenotation) → P → Result (List F) UnrollErr) (count : P → ℕ)
    → ((b : Bool) (known : List ℕ → NameDenotation)
    → IsListed (λ s. flattened b known (value s)) whole (λ ss. flat b known (of ss)))
    → ((ss : List S) (s : S) → count (of (ss ++ s ∷ [])) ≡ count (of ss) + node_count (value s))
    → (declared : List ℕ → NameDenotation) (before new parts : List T) (i : ℕ) (item copy : T)
    → new ≡ before ++ copy ∷ [] → i < length parts → item ≡ get_or parts i item
    → whole (part copy) ≡ whole (part item)
    → IsSameExpression declared (value (part copy)) (value (part item))
    → IsSameFlat flat count declared (of (map part before)) (of (map part (take i parts)))
    → IsSameFlat flat count declared (of (map part new)) (of (map part (take (i + 1) parts)))
parts_pushed {T} {S} {P} {F} part of value whole flat count listed counted declared before new parts
    i item copy pushed h e like same all =
    let copies : map part new ≡ map part before ++ part copy ∷ [] =
    ap (map part) pushed ∙ map-append part before (copy ∷ []) in
    let items : map part (take (i + 1) parts) ≡ map part (take i parts) ++ part item ∷ [] =
    rw (add-one, take-suc parts i item h, ← e) (map-append part (take i parts) (item ∷ [])) in
    subst (λ xs. IsSameFlat flat count declared (of xs) (of (map part (take (i + 1) parts))))
    (sym copies)
    (subst (λ ys. IsSameFlat flat count declared (of (map part before ++ part copy ∷ [])) (of ys))
    (sym items)
    (record {
      in_loops = λ loops g b.
          let known = meant_in loops declared in
          all_pushed (λ s. flattened b known (value s)) whole (λ ss. flat b known (of ss))
          (listed b known) (map part before) (map part (take i parts)) (part copy) (part item)
          (all.in_loops loops g b) (same.in_loops loops g b) like;
      nodes = omega (
        arith,
        counted (map part before) (part copy),
        counted (map part (take i parts)) (part item),
        all.nodes,
        same.nodes,
      );
    }))

-- the terms of a sum
abbrev term_made : Signed → FlatExpression → FlatSigned
term_made t f = record { minus = t.minus; at = t.at; value = f }

term_count : (ts : List Signed) (t : Signed)
    → term_nodes (terms_of (ts ++ t ∷ [])) ≡ term_nodes (terms_of ts) + node_count t.value
term_count [] t = omega arith
term_count (s ∷ ss) t = let rest = term_count ss t in omega arith

pub terms_pushed : (declared : List ℕ → NameDenotation) (before new terms : List Term) (i : ℕ)
    (item : Term) (value : Expr)
    → new ≡ before ++ roll-Term (record {
      minus = (out-Term item).minus;
      at = (out-Term item).at;
      value = value;
    }) ∷ []
    → i < length terms → item ≡ get_or terms i item
    → IsSameTerms declared (terms_of (map signed before)) (terms_of (map signed (take i terms)))
    → IsSameExpression declared (expression value) (expression (out-Term item).value)
    → IsSameTerms declared (terms_of (map signed new)) (terms_of (map signed (take (i + 1) terms)))
terms_pushed declared before new terms i item value pushed h e all same =
    let copy =
    fold-roll-Term Expression Scaled Reference Signed expression_step scaled_step reference_step
    signed_step (record {
      minus = (out-Term item).minus;
      at = (out-Term item).at;
      value = value;
    }) in
    let one =
    fold_out-Term Expression Scaled Reference Signed expression_step scaled_step reference_step
    signed_step item in
    parts_pushed signed terms_of (λ t. t.value) term_made flattened_terms term_nodes
    (λ b known. record { none = refl; more = λ x xs. refl }) term_count declared before new terms i
    item _ pushed h e (ap term_made copy ∙ sym (ap term_made one)) (rw (copy, one) same) all

-- the factors of a product
abbrev factor_made : Scaled → FlatExpression → FlatScaled
factor_made t f = record { divide = t.divide; at = t.at; value = f }

factor_count : (ts : List Scaled) (t : Scaled)
    → factor_nodes (factors_of (ts ++ t ∷ [])) ≡ factor_nodes (factors_of ts) + node_count t.value
factor_count [] t = omega arith
factor_count (s ∷ ss) t = let rest = factor_count ss t in omega arith

pub factors_pushed : (declared : List ℕ → NameDenotation) (before new factors : List Factor) (i : ℕ)
    (item : Factor) (value : Expr)
    → new ≡ before ++ roll-Factor (record {
      divide = (out-Factor item).divide;
      at = (out-Factor item).at;
      value = value;
    }) ∷ []
    → i < length factors → item ≡ get_or factors i item
    → IsSameFactors declared (factors_of (map scaled before)) (factors_of (map scaled (take i factors)))
    → IsSameExpression declared (expression value) (expression (out-Factor item).value)
    → IsSameFactors declared (factors_of (map scaled new)) (factors_of (map scaled (take (i + 1) factors)))
factors_pushed declared before new factors i item value pushed h e all same =
    let copy =
    fold-roll-Factor Expression Scaled Reference Signed expression_step scaled_step reference_step
    signed_step (record {
      divide = (out-Factor item).divide;
      at = (out-Factor item).at;
      value = value;
    }) in
    let one =
    fold_out-Factor Expression Scaled Reference Signed expression_step scaled_step reference_step
    signed_step item in
    parts_pushed scaled factors_of (λ t. t.value) factor_made flattened_factors factor_nodes
    (λ b known. record { none = refl; more = λ x xs. refl }) factor_count declared before new factors i
    item _ pushed h e (ap factor_made copy ∙ sym (ap factor_made one)) (rw (copy, one) same) all
