-- The values of inputs, also after one is set.
use Rattle.qss_components.proofs.Common
use Common.{[], ℕ, ℤ, ◌&&◌, ◌+ℤ◌, ◌+◌, ◌-◌, ◌<◌, ◌==◌, ◌∙◌, ◌∷◌, ◌≡◌, ◌≢◌, ◌≤◌, All, All-head}
use Common.{All-tail, ap, AreInputs, arith, Bool, cases_Bool, cases_eq, coefficient_of}
use Common.{discrete_count, Entry, eqb-no, eqb-yes, false, FunctionInput, get_or, get_or-map}
use Common.{get_or-set_same, if-false, if-true, if◌then◌else◌, inl, input_discretes, input_levels}
use Common.{input_value, input_vars, inr, int_at, int_at-tabulate, is_listed, IsStrictlyIncreasing}
use Common.{IsWithin, length, length-map, length-map-range_with_len, length-set, List, Machine, map}
use Common.{pos, refl, row_at, row_reads, same_lists, set, state_count, subst, suc, sum_over, sym}
use Common.{tabulate-same, true, zero}
use Rattle.std.proofs.Math.IntN.{+ℤ_idl}
use Rattle.std.proofs.lemmas.Bool.{and_from, and_right}
use Rattle.std.proofs.lemmas.List.Elements.{All-set}
use Rattle.mu_num.specs.IndexedSums.{tabulate}
use Rattle.mu_num.proofs.Tables.{map_twice}
use Rattle.qss_machine.specs.Machines.{row_coefficient}
use Rattle.qss_machine.proofs.Distinct.{coefficient_at}
use Rattle.qss_components.specs.FunctionInputs.{AreValued}
use Rattle.qss_components.proofs.InputPlaces.{no_input, input_place, input_listed, others}
use Rattle.qss_components.proofs.Variables.{set_same, set_other}

-- ---- inputs as entries

pub sum_over-map : {X Y : Type 0} (g : X → Y) (f : Y → ℤ) (xs : List X) → sum_over f (map g xs) ≡
    sum_over (λ x. f (g x)) xs
sum_over-map g f [] = refl
sum_over-map g f (x ∷ xs) = ap (λ z. f (g x) +ℤ z) (sum_over-map g f xs)

-- an input as an entry, with its value
abbrev pub value_entry : FunctionInput → Entry
value_entry input = record { var = input.var; coef = input.value }

pub value_is : (inputs : List FunctionInput) (var : ℕ) → input_value inputs var ≡ coefficient_of
    (map value_entry inputs) var
value_is inputs var = sym (sum_over-map value_entry (λ (entry : Entry). if entry.var == var then
    entry.coef else pos 0) inputs)

pub entries_rise : (inputs : List FunctionInput) → IsStrictlyIncreasing (input_vars inputs) →
    IsStrictlyIncreasing (map (λ (entry : Entry). entry.var) (map value_entry inputs))
entries_rise inputs rising = subst IsStrictlyIncreasing (sym (map_twice
    (λ (entry : Entry). entry.var) value_entry inputs)) rising

-- ---- the value of a variable

pub value_at : (inputs : List FunctionInput) (var k : ℕ) (d : FunctionInput) → IsStrictlyIncreasing
    (input_vars inputs) → k < length inputs → (get_or inputs k d).var ≡ var →
    input_value inputs var ≡ (get_or inputs k d).value
value_at inputs var k d rising inside same =
    let entries : List Entry = map value_entry inputs in
    let at : get_or entries k (value_entry d) ≡ value_entry (get_or inputs k d) = get_or-map
    value_entry inputs k d (value_entry d) inside in
    value_is inputs var
    ∙ coefficient_at entries var k (value_entry d) (entries_rise inputs rising)
    (omega (arith, inside, length-map inputs value_entry))
    (ap (λ (entry : Entry). entry.var) at ∙ same)
    ∙ ap (λ (entry : Entry). entry.coef) at

pub no_value : (inputs : List FunctionInput) (var : ℕ) → All (λ input. input.var ≢ var) inputs →
    input_value inputs var ≡ pos 0
no_value [] var h = refl
no_value (input ∷ inputs) var h =
    ap (λ z. z +ℤ input_value inputs var) (if-false (input.var == var) input.value (pos 0)
    (eqb-no input.var var (All-head (λ (input : FunctionInput). input.var ≢ var) input inputs
    h)))
    ∙ +ℤ_idl (input_value inputs var) ∙ no_value inputs var (All-tail
    (λ (input : FunctionInput). input.var ≢ var) input inputs h)

pub value_small : (inputs : List FunctionInput) (var : ℕ) → AreValued inputs → IsWithin 43
    (input_value inputs var)
value_small inputs var are = elim (cases_Bool (is_listed (input_vars inputs) var)) [
  | inl listed ↦
      let found = input_place inputs var listed in
      subst (IsWithin 43) (sym (value_at inputs var found.0 no_input are.rising found.1
      (found.2 no_input))) (are.small found.0 no_input found.1)
  | inr other ↦ subst (IsWithin 43) (sym (no_value inputs var (others inputs var other)))
      (omega arith)
]

-- a discrete value in the list of all discrete values
pub discrete_value : (m : Machine) (inputs : List FunctionInput) (var : ℕ) → state_count m ≤ var →
    var < state_count m + discrete_count m →
    int_at (input_discretes m inputs) (var - state_count m) ≡ input_value inputs var
discrete_value m inputs var low high =
    let there : state_count m + (var - state_count m) ≡ var = omega (arith, low) in
    int_at-tabulate (discrete_count m) (λ g. input_value inputs (state_count m + g))
    (var - state_count m) (omega (arith, low, high)) ∙ ap (input_value inputs) there

-- ---- an input that is set

set_vars : (inputs : List FunctionInput) (k : ℕ) (x : FunctionInput) →
    ((d : FunctionInput) → k < length inputs → (get_or inputs k d).var ≡ x.var) → input_vars
    (set inputs k x) ≡ input_vars inputs
set_vars [] k x same = refl
set_vars (input ∷ inputs) zero x same = ap (λ var. var ∷ input_vars inputs)
    (sym (same input (omega arith)))
set_vars (input ∷ inputs) (suc k) x same = ap (λ vars. input.var ∷ vars)
    (set_vars inputs k x (λ d h. same d (omega (arith, h))))

other_value : (inputs : List FunctionInput) (k i : ℕ) (x : FunctionInput) →
    ((d : FunctionInput) → k < length inputs → (get_or inputs k d).var ≢ i) → x.var ≢ i →
    input_value (set inputs k x) i ≡ input_value inputs i
other_value [] k i x other ne = refl
other_value (input ∷ inputs) zero i x other ne =
    ap (λ z. z +ℤ input_value inputs i)
    (if-false (x.var == i) x.value (pos 0) (eqb-no x.var i ne) ∙ sym
    (if-false (input.var == i) input.value (pos 0) (eqb-no input.var i
    (other input (omega arith)))))
other_value (input ∷ inputs) (suc k) i x other ne =
    ap (λ z. (if input.var == i then input.value else pos 0) +ℤ z)
    (other_value inputs k i x (λ d h. other d (omega (arith, h))) ne)

module _ (m : Machine) (row : ℕ) (inputs : List FunctionInput) (are : AreInputs m row inputs)
    (var : ℕ) (value : ℤ) where
  -- what a variable is after its input is set, if the row reads it
  abbrev pub value_after : ℕ → ℤ
  value_after i = if row_reads var (row_at m row) && i == var then value else input_value inputs i

  module _ (k : ℕ) (inside : k < length inputs) (own : (d : FunctionInput) → (get_or inputs k d).var
      ≡ var) (x : FunctionInput) (is : x ≡ record (get_or inputs k no_input) { value = value })
    where
      x_var : x.var ≡ var
      x_var = ap (λ (input : FunctionInput). input.var) is ∙ own no_input

      vars : input_vars (set inputs k x) ≡ input_vars inputs
      vars = set_vars inputs k x (λ d h. own d ∙ sym x_var)

      reads : row_reads var (row_at m row) ≡ true
      reads = sym (are.reads var) ∙ input_listed inputs var k no_input inside (own no_input)

      rising : IsStrictlyIncreasing (input_vars (set inputs k x))
      rising = subst IsStrictlyIncreasing (sym vars) are.valued.rising

      pub set_are : IsWithin 43 value → AreInputs m row (set inputs k x)
      set_are small = record {
        valued = record {
          rising = rising;
          small = All-set (λ (input : FunctionInput). IsWithin 43 input.value) inputs k x
              (subst (IsWithin 43) (sym (ap (λ (input : FunctionInput). input.value) is)) small)
              are.valued.small;
        };
        known = All-set (λ (input : FunctionInput). input.var < state_count m + discrete_count m)
            inputs k x
            (subst (λ (input : FunctionInput). input.var < state_count m + discrete_count m) (sym is)
            (are.known k no_input inside)) are.known;
        reads = λ v. ap (λ vs. is_listed vs v) vars ∙ are.reads v;
        own = All-set (λ (input : FunctionInput). input.coef ≡ row_coefficient m row input.var) inputs
            k x
            (subst (λ (input : FunctionInput). input.coef ≡ row_coefficient m row input.var) (sym is)
            (are.own k no_input inside)) are.own;
      }

      pub set_values : (i : ℕ) → input_value (set inputs k x) i ≡ value_after i
      set_values i = elim (cases_eq i var) [
        | inl e ↦
            let there : get_or (set inputs k x) k no_input ≡ x = get_or-set_same inputs k x no_input
            inside in
            value_at (set inputs k x) i k no_input rising (omega
            (arith, inside, length-set inputs k x)) (ap (λ (input : FunctionInput). input.var)
            there ∙ x_var ∙ sym e)
            ∙ ap (λ (input : FunctionInput). input.value) (there ∙ is)
            ∙ sym (if-true (row_reads var (row_at m row) && i == var) value (input_value inputs i)
            (and_from _ _ reads (eqb-yes i var e)))
        | inr ne ↦
            other_value inputs k i x (λ d h same. ne (sym same ∙ own d))
            (λ same. ne (sym same ∙ x_var))
            ∙ sym (if-false (row_reads var (row_at m row) && i == var) value (input_value inputs i)
            (and_right _ _ (eqb-no i var ne)))
      ]

  -- a variable that is not an input is not read
  pub unset_values : All (λ input. input.var ≢ var) inputs → (i : ℕ) → input_value inputs i ≡
      value_after i
  unset_values none i = elim (cases_Bool (is_listed (input_vars inputs) var)) [
    | inl listed ↦ (let found = input_place inputs var listed in absurd
        (none found.0 no_input found.1 (found.2 no_input)))
    | inr other ↦
        let unread : row_reads var (row_at m row) ≡ false = sym (are.reads var) ∙ other in
        sym (if-false (row_reads var (row_at m row) && i == var) value (input_value inputs i)
        (ap (λ b. b && (i == var)) unread))
  ]

-- ---- tables of values

-- a table of which one value is set, under a condition
pub table_set : (n place : ℕ) (f g : ℕ → ℤ) (b : Bool) (value : ℤ) → place < n →
    ((i : ℕ) → i < n → g i ≡ (if b && i == place then value else f i)) →
    tabulate n g ≡ (if b then set (tabulate n f) place value else tabulate n f)
table_set n place f g false value h same = tabulate-same (pos 0) n g f (λ i k. same i k)
table_set n place f g true value h same =
    let many : length (tabulate n f) ≡ n = length-map-range_with_len f 0 n in
    same_lists (pos 0) (tabulate n g) (set (tabulate n f) place value)
    (length-map-range_with_len g 0 n ∙ sym (length-set (tabulate n f) place value ∙ many))
    (λ i k.
    let low : i < n = omega (arith, k, length-set (tabulate n f) place value, many) in
    int_at-tabulate n g i low ∙ same i low
    ∙ elim (cases_eq i place) [
      | inl e ↦ if-true (i == place) value (f i) (eqb-yes i place e) ∙ sym
          (set_same (tabulate n f) place i value e (omega (arith, h, many)))
      | inr ne ↦ if-false (i == place) value (f i) (eqb-no i place ne) ∙ sym
          (set_other (tabulate n f) place i value ne ∙ int_at-tabulate n f i low)
    ])

-- the lists of all levels and of all discrete values after a variable is set
module _ (m : Machine) (row : ℕ) (old new : List FunctionInput) (var : ℕ) (value : ℤ)
    (same : (i : ℕ) → input_value new i ≡ (if row_reads var (row_at m row) && i == var then value
    else input_value old i)) where
  kept_at : (i : ℕ) → i ≢ var → input_value new i ≡ input_value old i
  kept_at i ne = same i ∙ if-false (row_reads var (row_at m row) && i == var) value
      (input_value old i) (and_right _ _ (eqb-no i var ne))

  pub levels_set : var < state_count m → input_levels m new ≡
      (if row_reads var (row_at m row) then set (input_levels m old) var value else input_levels m
      old)
  levels_set h = table_set (state_count m) var (input_value old) (input_value new)
      (row_reads var (row_at m row)) value h (λ i k. same i)

  pub levels_kept : state_count m ≤ var → input_levels m new ≡ input_levels m old
  levels_kept h = tabulate-same (pos 0) (state_count m) (input_value new) (input_value old)
      (λ i k. kept_at i (λ e. omega (arith, e, h, k)))

  pub discretes_set : state_count m ≤ var → var < state_count m + discrete_count m →
      input_discretes m new ≡ (if row_reads var (row_at m row) then set (input_discretes m old)
      (var - state_count m) value else input_discretes m old)
  discretes_set low high =
      table_set (discrete_count m) (var - state_count m) (λ g. input_value old (state_count m + g))
      (λ g. input_value new (state_count m + g)) (row_reads var (row_at m row)) value
      (omega (arith, low, high))
      (λ g k. same (state_count m + g) ∙ ap (λ b. if row_reads var (row_at m row) && b then value
      else input_value old (state_count m + g)) (there g))
    where
      there : (g : ℕ) → (state_count m + g == var) ≡ (g == var - state_count m)
      there g = elim (cases_eq g (var - state_count m)) [
        | inl e ↦ eqb-yes (state_count m + g) var (omega (arith, e, low)) ∙ sym
            (eqb-yes g (var - state_count m) e)
        | inr ne ↦ eqb-no (state_count m + g) var (λ e. ne (omega (arith, e, low))) ∙ sym
            (eqb-no g (var - state_count m) ne)
      ]

  pub discretes_kept : var < state_count m → input_discretes m new ≡ input_discretes m old
  discretes_kept h =
      tabulate-same (pos 0) (discrete_count m) (λ g. input_value new (state_count m + g))
      (λ g. input_value old (state_count m + g)) (λ g k. kept_at (state_count m + g)
      (λ e. omega (arith, e, h)))
