-- What holds of references and expressions with constants put in.
use Rattle.mu_unroll.proofs.Common
use Common.{[], ℕ, ℤ, ⊤, ◌+◌, ◌-◌, ◌<◌, ◌∷◌, ◌≡◌, ◌≤ℤ◌, Algebraic, All, All-nil, ap, ap₂, arith}
use Common.{bind_result, Bool, constant_value, constants_in, Discrete, Err, Expression}
use Common.{factor_nodes, Factors, false, FlatExpression, FlatRole, FlatScaled, FlatSigned}
use Common.{flattened, flattened_factors, flattened_terms, FlatVariable, found, Fraction}
use Common.{HasSmallPowers, IfOk, IfSome, if◌then◌else◌, Index, int_le, ints, IsFlatExpression}
use Common.{length, List, NameDenotation, node_count, None, number_of_kind, Ok, Option, pos}
use Common.{Reference, refl, ResolvedReference, Result, slice_get, Some, State, subst, term_nodes}
use Common.{Terms, true, UnrollErr, unsigned_abs, whole_at}
use Rattle.std.specs.Prelude.{◌&&◌}
use Rattle.std.proofs.lemmas.List.Elements.{All-append, All-cons}
use Rattle.mu_num.specs.Decimal.{decimal_value}
use Rattle.mu_tree.specs.Expression.{Number, Variable, Now, Previous, Sum, Product, Power, Whole}
use Rattle.mu_tree.specs.Expression.{Element, no_terms, term, no_factors, factor}
use Rattle.mu_tree.specs.FlatExpression.{flat_terms_of, flat_factors_of}
use Rattle.mu_tree.specs.FlatModels.{AreFlatTerms, AreFlatFactors}
use Rattle.mu_causal.specs.Dependencies.{names_of, names_of_terms, names_of_factors}
use Rattle.mu_unroll.specs.declared.environment.ResolvedReference.TheVariants.{Value, Numbered}
use Rattle.mu_unroll.specs.declared.environment.ResolvedReference.TheVariants.{Unfound}
use Rattle.mu_unroll.specs.Flattening.{element_found, index_in, literal_part, part_of, place_of}
use Rattle.mu_unroll.specs.Flattening.{previous_part, whole_found}
use Rattle.mu_unroll.specs.ConstantValues.{placed}
use Rattle.mu_unroll.specs.WellFormed.{HaveSmallPowersTerms, HaveSmallPowersFactors}
use Rattle.mu_unroll.proofs.Numbering.{AllPoint, PointsTo, below_all, role_at, roles_of}
use Rattle.mu_unroll.proofs.Rounding.{le_of}
use Rattle.mu_unroll.proofs.Stepping.{any_answer, each_then, each_weaker}
use Rattle.mu_tree.specs.FlatExpression as trees
use Rattle.mu_tree.specs.FlatModels as flat
use Rattle.mu_unroll.specs.declared.environment.NameDenotation.TheVariants as meant

-- an index is below the size
index_fits : (at size : ℕ) (i : ℤ) → IfOk (index_in at size i) (λ k. k < size)
index_fits at size i = by_low (int_le (pos 1) i) (int_le i (pos size)) refl refl
  where
    by_low : (low high : Bool) → int_le (pos 1) i ≡ low → int_le i (pos size) ≡ high → IfOk {E = UnrollErr} (if low && high then Ok (unsigned_abs i - 1) else Err (Index at i size)) (λ k. k < size)
    by_low false high a b = tt
    by_low true false a b = tt
    by_low true true a b = let l : pos 1 ≤ℤ i = le_of (pos 1) i a in let u : i ≤ℤ pos size = le_of i (pos size) b in omega (arith, ints)

-- what is found is a variable of its kind
abbrev pub IsFoundIn : List FlatRole → ResolvedReference → Type 0
IsFoundIn rs (Value a) = Unit {0}
IsFoundIn rs (Numbered kind v) = slice_get rs v ≡ Some kind
IsFoundIn rs Unfound = Unit {0}

whole_in : (rs : List FlatRole) (m : NameDenotation) → PointsTo rs m → IsFoundIn rs (whole_found m)
whole_in rs (meant.Constant a) p = tt
whole_in rs (meant.Variable kind first None) p =
    let e : first + 0 ≡ first = omega arith in
    subst (λ v. slice_get rs v ≡ Some kind) e (p 0 (omega arith))
whole_in rs (meant.Variable kind first (Some size)) p = tt
whole_in rs meant.Nothing p = tt

element_in : (rs : List FlatRole) (known : List ℕ → NameDenotation) (at : ℕ) (index : Expression) (m : NameDenotation) → PointsTo rs m → IfOk (element_found known at index m) (IsFoundIn rs)
element_in rs known at index (meant.Constant a) p = tt
element_in rs known at index (meant.Variable kind first None) p = tt
element_in rs known at index (meant.Variable kind first (Some size)) p =
    each_then (λ _. Unit {0}) (IsFoundIn rs) (constant_value (constants_in known) index) (λ a. bind_result (whole_at at a) (λ i. bind_result (index_in at size i) (λ k. Ok (Numbered kind (first + k)))))
    (any_answer (constant_value (constants_in known) index)) (λ a _.
    each_then (λ _. Unit {0}) (IsFoundIn rs) (whole_at at a) (λ i. bind_result (index_in at size i) (λ k. Ok (Numbered kind (first + k))))
    (any_answer (whole_at at a)) (λ i _.
    each_then (λ k. k < size) (IsFoundIn rs) (index_in at size i) (λ k. Ok (Numbered kind (first + k))) (index_fits at size i) (λ k h. p k h)))
element_in rs known at index meant.Nothing p = tt

pub found_in : (rs : List FlatRole) (known : List ℕ → NameDenotation) (r : Reference) → AllPoint rs known → IfOk (found known r) (IsFoundIn rs)
found_in rs known (Whole name at) p = whole_in rs (known name) (p name)
found_in rs known (Element name index at) p = element_in rs known at index (known name) (p name)

-- the number of a variable of a kind is that of one
pub number_in : (rs : List FlatRole) (kind : FlatRole) (f : ResolvedReference) → IsFoundIn rs f → IfSome (number_of_kind kind f) (λ v. slice_get rs v ≡ Some kind)
number_in rs kind (Value a) h = tt
number_in rs State (Numbered State v) h = h
number_in rs State (Numbered Discrete v) h = tt
number_in rs State (Numbered Algebraic v) h = tt
number_in rs Discrete (Numbered State v) h = tt
number_in rs Discrete (Numbered Discrete v) h = h
number_in rs Discrete (Numbered Algebraic v) h = tt
number_in rs Algebraic (Numbered State v) h = tt
number_in rs Algebraic (Numbered Discrete v) h = tt
number_in rs Algebraic (Numbered Algebraic v) h = h
number_in rs kind Unfound h = tt

-- of an expression with constants put in this holds, and it has as many nodes as the expression
abbrev pub IsFlat : (FlatExpression → Type 0) → Expression → FlatExpression → Type 0
IsFlat F e f = F f × (flat.node_count f ≡ node_count e)

abbrev pub Flattens : (Expression → Type 0) → (FlatExpression → Type 0) → Bool → (List ℕ → NameDenotation) → Type 0
Flattens P F in_clause known = (e : Expression) → P e → IfOk (flattened in_clause known e) (IsFlat F e)

-- the names of an expression, whatever its exponents, are variables
abbrev pub AreNamed : List FlatVariable → FlatExpression → Type 0
AreNamed vars f = All (λ w. w < length vars) (names_of f)

no_names : (vars : List FlatVariable) → All (λ w. w < length vars) []
no_names vars = All-nil (λ w. w < length vars)

-- an expression with constants put in names variables, and is one of a flat model if the exponents are small
abbrev IsRight : List FlatVariable → Bool → Expression → FlatExpression → Type 0
IsRight vars may e = IsFlat (λ f. AreNamed vars f × (HasSmallPowers e → IsFlatExpression vars may f)) e

abbrev AreRightTerms : List FlatVariable → Bool → Terms → List FlatSigned → Type 0
AreRightTerms vars may ts fs =
    (All (λ w. w < length vars) (names_of_terms (flat_terms_of fs)) × (HaveSmallPowersTerms ts → AreFlatTerms vars may (flat_terms_of fs)))
    × (flat.term_nodes (flat_terms_of fs) ≡ term_nodes ts)

abbrev AreRightFactors : List FlatVariable → Bool → Factors → List FlatScaled → Type 0
AreRightFactors vars may ts fs =
    (All (λ w. w < length vars) (names_of_factors (flat_factors_of fs)) × (HaveSmallPowersFactors ts → AreFlatFactors vars may (flat_factors_of fs)))
    × (flat.factor_nodes (flat_factors_of fs) ≡ factor_nodes ts)

-- literals and names
literal_right : (vars : List FlatVariable) (may : Bool) (digits : List ℕ) (at : ℕ) (r : Result Fraction UnrollErr) → IfOk (literal_part at r) (IsRight vars may (Number digits at))
literal_right vars may digits at (Ok a) = ((no_names vars, λ s. tt), refl)
literal_right vars may digits at (Err f) = tt

part_right : (vars : List FlatVariable) (may : Bool) (r : Reference) (f : ResolvedReference) → IsFoundIn (roles_of vars) f → IsRight vars may (Variable r) (part_of (place_of r) f)
part_right vars may r (Value a) h = ((no_names vars, λ s. tt), refl)
part_right vars may r (Numbered kind v) h = ((All-cons (λ w. w < length vars) v [] (below_all vars v kind h) (no_names vars), λ s. below_all vars v kind h), refl)
part_right vars may r Unfound h = ((no_names vars, λ s. tt), refl)

previous_right : (vars : List FlatVariable) (in_clause : Bool) (r : Reference) (o : Option ℕ) → IfSome o (λ v. slice_get (roles_of vars) v ≡ Some Discrete) → IsRight vars in_clause (Previous r) (previous_part in_clause (place_of r) o)
previous_right vars true r (Some v) h = ((no_names vars, λ s. (refl, role_at vars v Discrete h)), refl)
previous_right vars true r None h = ((no_names vars, λ s. tt), refl)
previous_right vars false r o h = ((no_names vars, λ s. tt), refl)

module _ (vars : List FlatVariable) (may : Bool) (known : List ℕ → NameDenotation) (points : AllPoint (roles_of vars) known) where
  mutual
    expression_right : (e : Expression) → IfOk (flattened may known e) (IsRight vars may e)
    expression_right (Number digits at) = literal_right vars may digits at (placed at (decimal_value digits))
    expression_right (Variable r) = each_then (IsFoundIn (roles_of vars)) (IsRight vars may (Variable r)) (found known r) (λ f. Ok (part_of (place_of r) f)) (found_in (roles_of vars) known r points) (λ f h. part_right vars may r f h)
    expression_right (Now at) = ((no_names vars, λ s. tt), refl)
    expression_right (Previous r) =
        each_then (IsFoundIn (roles_of vars)) (IsRight vars may (Previous r)) (found known r) (λ f. Ok (previous_part may (place_of r) (number_of_kind Discrete f))) (found_in (roles_of vars) known r points)
        (λ f h. previous_right vars may r (number_of_kind Discrete f) (number_in (roles_of vars) Discrete f h))
    expression_right (Sum ts) = each_then (AreRightTerms vars may ts) (IsRight vars may (Sum ts)) (flattened_terms may known ts) (λ fs. Ok (trees.Sum (flat_terms_of fs))) (terms_right ts) (λ fs h. (h.0, ap (λ n. 1 + n) h.1))
    expression_right (Product ts) = each_then (AreRightFactors vars may ts) (IsRight vars may (Product ts)) (flattened_factors may known ts) (λ fs. Ok (trees.Product (flat_factors_of fs))) (factors_right ts) (λ fs h. (h.0, ap (λ n. 1 + n) h.1))
    expression_right (Power base exp at) =
        each_then (IsRight vars may base) (IsRight vars may (Power base exp at)) (flattened may known base) (λ b. Ok (trees.Power b exp at)) (expression_right base) (λ f h. ((h.0.0, λ s. (h.0.1 s.0, s.1)), ap (λ n. 1 + n) h.1))

    terms_right : (ts : Terms) → IfOk (flattened_terms may known ts) (AreRightTerms vars may ts)
    terms_right no_terms = ((no_names vars, λ s. tt), refl)
    terms_right (term minus at e rest) =
        each_then (IsRight vars may e) (AreRightTerms vars may (term minus at e rest)) (flattened may known e) (λ f. bind_result (flattened_terms may known rest) (λ fs. Ok (record { minus = minus; at = at; value = f } ∷ fs))) (expression_right e) (λ f h.
        each_then (AreRightTerms vars may rest) (AreRightTerms vars may (term minus at e rest)) (flattened_terms may known rest) (λ fs. Ok (record { minus = minus; at = at; value = f } ∷ fs)) (terms_right rest)
        (λ fs hs. ((All-append (λ w. w < length vars) (names_of f) (names_of_terms (flat_terms_of fs)) h.0.0 hs.0.0, λ s. (h.0.1 s.0, hs.0.1 s.1)), ap₂ (λ n k. n + k) h.1 hs.1)))

    factors_right : (ts : Factors) → IfOk (flattened_factors may known ts) (AreRightFactors vars may ts)
    factors_right no_factors = ((no_names vars, λ s. tt), refl)
    factors_right (factor divide at e rest) =
        each_then (IsRight vars may e) (AreRightFactors vars may (factor divide at e rest)) (flattened may known e) (λ f. bind_result (flattened_factors may known rest) (λ fs. Ok (record { divide = divide; at = at; value = f } ∷ fs))) (expression_right e) (λ f h.
        each_then (AreRightFactors vars may rest) (AreRightFactors vars may (factor divide at e rest)) (flattened_factors may known rest) (λ fs. Ok (record { divide = divide; at = at; value = f } ∷ fs)) (factors_right rest)
        (λ fs hs. ((All-append (λ w. w < length vars) (names_of f) (names_of_factors (flat_factors_of fs)) h.0.0 hs.0.0, λ s. (h.0.1 s.0, hs.0.1 s.1)), ap₂ (λ n k. n + k) h.1 hs.1)))

  -- an expression with constants put in is one of a flat model
  pub expression_flat : Flattens HasSmallPowers (IsFlatExpression vars may) may known
  expression_flat e s = each_weaker (IsRight vars may e) (IsFlat (IsFlatExpression vars may) e) (flattened may known e) (λ f h. (h.0.1 s, h.1)) (expression_right e)

  -- an expression with constants put in names variables
  pub expression_named : Flattens (λ _. ⊤) (AreNamed vars) may known
  expression_named e s = each_weaker (IsRight vars may e) (IsFlat (AreNamed vars) e) (flattened may known e) (λ f h. (h.0.0, h.1)) (expression_right e)
