-- The places of inputs, and what binary search finds among them.
use Rattle.qss_components.proofs.Common
use Common.{ℕ, ◌+◌, ◌-◌, ◌<◌, ◌==◌, ◌∙◌, ◌≡◌, ◌≢◌, ◌≤◌, All, AreInputs, arith, cases_lt}
use Common.{discrete_count, eqb-yes, Err, false, FunctionInput, get_or, get_or-map, inl, input_vars}
use Common.{inr, is_listed, IsStrictlyIncreasing, length, length-map, List, list_any_at, Machine}
use Common.{nat_tests, Ok, pos, state_count, subst, sym, true}
use Rattle.std.proofs.Common.{Result}
use Rattle.std.proofs.lemmas.Cmp.{ranked}
use Rattle.std.proofs.lemmas.List.Sorted.{IsNonDecreasingBy-from_default}
use Rattle.std.specs.Prelude.{MatchResult, slice_index}
use Rattle.std.specs.Ordering.{nat_cmp, ordering_index}
use Rattle.std.specs.List.Sorted.{IsSearchInRange, IsBinarySearchResult, IsNonDecreasingBy}
use Rattle.mu_num.proofs.RisingNumbers.{few_numbers}
use Rattle.mu_num.proofs.Writes.{index_of}
use Rattle.qss_machine.proofs.ProductStates.{rising_to}

abbrev pub no_input : FunctionInput
no_input = record { var = 0; coef = pos 0; value = pos 0 }

pub var_at : (inputs : List FunctionInput) (k : ℕ) (d : FunctionInput) → k < length inputs → get_or
    (input_vars inputs) k 0 ≡ (get_or inputs k d).var
var_at inputs k d inside = get_or-map (λ (input : FunctionInput). input.var) inputs k d 0 inside

pub vars_many : (inputs : List FunctionInput) → length (input_vars inputs) ≡ length inputs
vars_many inputs = length-map inputs (λ (input : FunctionInput). input.var)

-- a listed variable has an input
pub input_place : (inputs : List FunctionInput) (var : ℕ) → is_listed (input_vars inputs) var ≡ true
    → (k : ℕ) × (k < length inputs) × ((d : FunctionInput) → (get_or inputs k d).var ≡ var)
input_place inputs var listed =
    let found = index_of (input_vars inputs) var listed in
    let inside : found.0 < length inputs = omega (arith, found.1, vars_many inputs) in
    (found.0, inside, λ d. sym (var_at inputs found.0 d inside) ∙ found.2)

-- the variable of an input is listed
pub input_listed : (inputs : List FunctionInput) (var k : ℕ) (d : FunctionInput) → k < length inputs
    → (get_or inputs k d).var ≡ var → is_listed (input_vars inputs) var ≡ true
input_listed inputs var k d inside same =
    list_any_at (λ i. i == var) (input_vars inputs) k 0 (omega (arith, inside, vars_many inputs))
    (eqb-yes (get_or (input_vars inputs) k 0) var (var_at inputs k d inside ∙ same))

-- no input is of a variable that is not listed
pub others : (inputs : List FunctionInput) (var : ℕ) → is_listed (input_vars inputs) var ≡ false →
    All (λ input. input.var ≢ var) inputs
others inputs var none k d inside same = let listed = input_listed inputs var k d inside same in
    absurd (cc)

-- there are at most as many inputs as variables
pub inputs_few : (m : Machine) (row : ℕ) (inputs : List FunctionInput) → AreInputs m row inputs →
    length inputs ≤ 4096
inputs_few m row inputs are =
    let below : All (λ (var : ℕ). var < state_count m + discrete_count m) (input_vars inputs) =
    λ k d within.
    let inside : k < length inputs = omega (arith, within, vars_many inputs) in
    subst (λ (var : ℕ). var < state_count m + discrete_count m)
    (sym (get_or-map (λ (input : FunctionInput). input.var) inputs k no_input d inside))
    (are.known k no_input inside) in
    omega (
      arith,
      few_numbers (state_count m + discrete_count m) (input_vars inputs)
          (record { rising = are.valued.rising; below = below }),
      vars_many inputs,
      m.has_variables.few,
    )

module _ (inputs : List FunctionInput) (rising : IsStrictlyIncreasing (input_vars inputs)) (var : ℕ)
  where
    variables_rise : (i j : ℕ) → i ≤ j → j < length inputs → (get_or inputs i no_input).var ≤
        (get_or inputs j no_input).var
    variables_rise i j le inside =
        let vars : List ℕ = input_vars inputs in
        let there : i + (j - i) ≡ j = omega (arith, le) in
        let ordered : slice_index vars i ≤ slice_index vars j =
        subst (λ (k : ℕ). slice_index vars i ≤ slice_index vars k) there
        (rising_to vars rising i (j - i) (omega (arith, le, inside, vars_many inputs))) in
        omega (
          arith,
          var_at inputs i no_input (omega (arith, le, inside)),
          var_at inputs j no_input
              inside,
          ordered,
        )

    comparisons_rise : IsNonDecreasingBy (λ (input : FunctionInput). ordering_index
        (nat_cmp input.var var)) inputs
    comparisons_rise = IsNonDecreasingBy-from_default (λ (input : FunctionInput). ordering_index
        (nat_cmp input.var var)) inputs no_input (λ i j le inside.
        let rise : (get_or inputs i no_input).var ≤ (get_or inputs j no_input).var = variables_rise i
        j le inside in
        grind (arith, nat_tests))

    -- it ends at the variable's input, or where there is none
    pub searched : (r : Result ℕ ℕ) → IsSearchInRange r (length inputs) → IsBinarySearchResult
        (λ (input : FunctionInput). nat_cmp input.var var) inputs r →
        MatchResult r (λ k. (k < length inputs) × ((d : FunctionInput) → (get_or inputs k d).var ≡
        var)) (λ k. All (λ input. input.var ≢ var) inputs)
    searched (Ok k) inside equal = (inside, λ d. ranked _ var _ (sym (equal d)))
    searched (Err k) inside parted = λ i d within. elim (cases_lt i k) [
      | inl before ↦ (let less : (get_or inputs i d).var < var = ranked _ var _
          (sym ((parted comparisons_rise).0 i d (omega arith) before)) in λ e. omega (arith, less, e))
      | inr behind ↦ (let more : var < (get_or inputs i d).var = ranked _ var _
          (sym ((parted comparisons_rise).1 i d behind within)) in λ e. omega (arith, more, e))
    ]
