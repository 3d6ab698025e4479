-- Flattening of expressions and left sides: constants are replaced by their values.
use Rattle.std.specs.Prelude.{ℕ, ℤ, pos, ◌+◌, ◌-◌, ◌&&◌, int_le, unsigned_abs, Bool, true, false}
use Rattle.std.specs.Prelude.{if◌then◌else◌, List, [], ◌∷◌, Option, Some, None, Result, Ok, Err}
use Rattle.mu_num.specs.Fraction.{Fraction}
use Rattle.mu_num.specs.Decimal.{decimal_value}
use Rattle.mu_tree.specs.declared.flat.FlatRole.{FlatRole}
use Rattle.mu_tree.specs.declared.flat.FlatRole.TheVariants as flat_role
use Rattle.mu_tree.specs.Expression.{Expression, Number, Variable, Now, Previous, Sum, Product}
use Rattle.mu_tree.specs.Expression.{Power, Reference, Whole, Element, Terms, no_terms, term}
use Rattle.mu_tree.specs.Expression.{Factors, no_factors, factor}
use Rattle.mu_tree.specs.FlatExpression.{FlatExpression, FlatSigned, FlatScaled, flat_terms_of}
use Rattle.mu_tree.specs.FlatExpression.{flat_factors_of, Constant}
use Rattle.mu_tree.specs.FlatExpression as flat
use Rattle.mu_unroll.specs.declared.unroll_fault.UnrollErr.{UnrollErr}
use Rattle.mu_unroll.specs.declared.unroll_fault.UnrollErr.TheVariants.{Index}
use Rattle.mu_unroll.specs.declared.environment.ResolvedReference.{ResolvedReference}
use Rattle.mu_unroll.specs.declared.environment.ResolvedReference.TheVariants.{Value, Numbered}
use Rattle.mu_unroll.specs.declared.environment.ResolvedReference.TheVariants.{Unfound}
use Rattle.mu_unroll.specs.declared.environment.NameDenotation.{NameDenotation}
use Rattle.mu_unroll.specs.declared.environment.NameDenotation.TheVariants as meant
use Rattle.mu_unroll.specs.ConstantValues.{bind_result, placed, zero_value, constant_value}
use Rattle.mu_unroll.specs.ConstantValues.{whole_at}
use Rattle.mu_unroll.specs.VariablePlaces.{constant_of, is_kind}

-- the values of the names that denote constants
abbrev pub constants_in : (List ℕ → NameDenotation) → List ℕ → Option Fraction
constants_in known name = constant_of (known name)

-- the zero-based position for a one-based index, or the fault Index
abbrev pub index_in : (at size : ℕ) → ℤ → Result ℕ UnrollErr
index_in at size i = if int_le (pos 1) i && int_le i (pos size) then Ok (unsigned_abs i - 1) else Err (Index at i size)

-- the result for a name without an index; name analysis rejects arrays without an index
abbrev pub whole_found : NameDenotation → ResolvedReference
whole_found (meant.Constant a) = Value a
whole_found (meant.Variable kind first None) = Numbered kind first
whole_found (meant.Variable kind first (Some size)) = Unfound
whole_found meant.Nothing = Unfound

-- the result for an array element; other names have no elements
abbrev pub element_found : (List ℕ → NameDenotation) → ℕ → Expression → NameDenotation → Result ResolvedReference UnrollErr
element_found known at index (meant.Constant a) = Ok Unfound
element_found known at index (meant.Variable kind first None) = Ok Unfound
element_found known at index (meant.Variable kind first (Some size)) =
    bind_result (constant_value (constants_in known) index) (λ a. bind_result (whole_at at a) (λ i. bind_result (index_in at size i) (λ k. Ok (Numbered kind (first + k)))))
element_found known at index meant.Nothing = Ok Unfound

-- the result of resolving a reference
abbrev pub found : (List ℕ → NameDenotation) → Reference → Result ResolvedReference UnrollErr
found known (Whole name at) = Ok (whole_found (known name))
found known (Element name index at) = element_found known at index (known name)

-- the source offset of a reference
abbrev pub place_of : Reference → ℕ
place_of (Whole name at) = at
place_of (Element name index at) = at

-- a resolved reference as a flat expression
abbrev pub part_of : ℕ → ResolvedReference → FlatExpression
part_of at (Value a) = Constant a at
part_of at (Numbered kind v) = flat.Variable v at
part_of at Unfound = Constant zero_value at

-- the number of a resolved variable with this role
abbrev pub number_of_kind : FlatRole → ResolvedReference → Option ℕ
number_of_kind kind (Value a) = None
number_of_kind kind (Numbered other v) = if is_kind kind other then Some v else None
number_of_kind kind Unfound = None

-- `pre` of a variable as a flat expression; it is allowed only in clauses
abbrev pub previous_part : Bool → ℕ → Option ℕ → FlatExpression
previous_part true at (Some v) = flat.Previous v at
previous_part true at None = Constant zero_value at
previous_part false at v = Constant zero_value at

-- a literal as a flat expression
abbrev pub literal_part : ℕ → Result Fraction UnrollErr → Result FlatExpression UnrollErr
literal_part at (Ok a) = Ok (Constant a at)
literal_part at (Err fault) = Err fault

abbrev mutual
  -- the flat expression of an expression in a clause or in an equation
  pub flattened : Bool → (List ℕ → NameDenotation) → Expression → Result FlatExpression UnrollErr
  flattened in_clause known (Number digits at) = literal_part at (placed at (decimal_value digits))
  flattened in_clause known (Variable r) = bind_result (found known r) (λ f. Ok (part_of (place_of r) f))
  flattened in_clause known (Now at) = Ok (flat.Now at)
  flattened in_clause known (Previous r) = bind_result (found known r) (λ f. Ok (previous_part in_clause (place_of r) (number_of_kind flat_role.Discrete f)))
  flattened in_clause known (Sum ts) = bind_result (flattened_terms in_clause known ts) (λ ts. Ok (flat.Sum (flat_terms_of ts)))
  flattened in_clause known (Product fs) = bind_result (flattened_factors in_clause known fs) (λ fs. Ok (flat.Product (flat_factors_of fs)))
  flattened in_clause known (Power base exp at) = bind_result (flattened in_clause known base) (λ b. Ok (flat.Power b exp at))

  pub flattened_terms : Bool → (List ℕ → NameDenotation) → Terms → Result (List FlatSigned) UnrollErr
  flattened_terms in_clause known no_terms = Ok []
  flattened_terms in_clause known (term minus at e rest) =
      bind_result (flattened in_clause known e) (λ f. bind_result (flattened_terms in_clause known rest) (λ fs. Ok (record { minus = minus; at = at; value = f } ∷ fs)))

  pub flattened_factors : Bool → (List ℕ → NameDenotation) → Factors → Result (List FlatScaled) UnrollErr
  flattened_factors in_clause known no_factors = Ok []
  flattened_factors in_clause known (factor divide at e rest) =
      bind_result (flattened in_clause known e) (λ f. bind_result (flattened_factors in_clause known rest) (λ fs. Ok (record { divide = divide; at = at; value = f } ∷ fs)))

-- a loop bound, with faults at the offset of the loop variable
abbrev pub bound_of : (List ℕ → NameDenotation) → ℕ → Expression → Result ℤ UnrollErr
bound_of known at e = bind_result (constant_value (constants_in known) e) (whole_at at)
