-- Sums over the inputs of a row are its slope and its absolute row sum.
use Rattle.qss_components.proofs.Common
use Common.{[], ℕ, ℤ, ◌*ℤ◌, ◌+ℤ◌, ◌+◌, ◌<◌, ◌==◌, ◌^◌, ◌||◌, ◌∙◌, ◌∷◌, ◌≡◌, ◌≤◌, abs_of, All}
use Common.{All-head, All-tail, ap, AreInputs, arith, cases_Bool, cases_lt, coefficient_of}
use Common.{discrete_count, Entry, exceeds, exceeds_row_limits, false, FunctionInput, get_or}
use Common.{get_or-map, get_or_default, if-false, if-true, if◌then◌else◌, inl, input_discretes}
use Common.{input_levels, input_value, input_vars, inr, int_at, int_at-tabulate, ints, is_listed}
use Common.{length, length-map, length-map-range_with_len, List, Machine, map, mode_coefficient}
use Common.{mode_fits, nat_lt, no_row, not, pos, refl, row_at, slope_of, SlopeRow, state_count}
use Common.{subst, sum_at, sum_over, sym, true, weight_of}
use Rattle.std.proofs.Math.IntN.{*ℤ_comm}
use Rattle.std.proofs.lemmas.Bool.{lt-ltb}
use Rattle.mu_num.specs.IndexedSums.{sum_below}
use Rattle.mu_num.proofs.Sums.{sum_below-same, sum_below-split}
use Rattle.qss_machine.specs.MachineLimits.{IsRow}
use Rattle.qss_machine.proofs.Distinct.{plain, coefficient_size}
use Rattle.qss_machine.proofs.ModeTests.{fits_true, fits_false}
use Rattle.qss_machine.proofs.ProductStates.{IsFree, own_mode, own_mode_fits}
use Rattle.qss_machine.proofs.SumLaws.{sum_below-entries}
use Rattle.qss_machine.proofs.Unread.{unread_mode}
use Rattle.qss_machine.proofs.WeightLaws.{size-mul}
use Rattle.qss_components.proofs.InputPlaces.{no_input, input_place}
use Rattle.qss_components.proofs.InputValues.{value_entry, value_is, entries_rise, sum_over-map}

sum_over-same : {X : Type 0} (f g : X → ℤ) (xs : List X) → All (λ x. f x ≡ g x) xs → sum_over f xs ≡
    sum_over g xs
sum_over-same f g [] h = refl
sum_over-same f g (x ∷ xs) h =
    omega (
      arith,
      ints,
      All-head (λ x. f x ≡ g x) x xs h,
      sum_over-same f g xs
          (All-tail (λ x. f x ≡ g x) x xs h),
    )

-- a sum over variables of numbers times coefficients is a sum over entries
sum_by_entries : (entries : List Entry) (n : ℕ) (g : ℕ → ℤ) → All (λ entry. entry.var < n) entries →
    sum_below n (λ i. g i *ℤ coefficient_of entries i) ≡ sum_over
    (λ entry. g entry.var *ℤ entry.coef) entries
sum_by_entries entries n g known =
    sum_below-same n (λ i. g i *ℤ coefficient_of entries i) (λ i. coefficient_of entries i *ℤ g i)
    (λ i h. *ℤ_comm (g i) (coefficient_of entries i))
    ∙ sum_below-entries entries n g
    ∙ sum_over-same (λ entry. if nat_lt entry.var n then entry.coef *ℤ g entry.var else pos 0)
    (λ entry. g entry.var *ℤ entry.coef) entries
    (λ k d within.
    if-true (nat_lt (get_or entries k d).var n) _ _ (lt-ltb (get_or entries k d).var n
    (known k d within))
    ∙ *ℤ_comm (get_or entries k d).coef (g (get_or entries k d).var))

-- two sums of consecutive terms are one
one_sum : (n k : ℕ) (f low high : ℕ → ℤ) → ((i : ℕ) → i < n → low i ≡ f i) →
    ((i : ℕ) → i < k → high i ≡ f (n + i)) → sum_below n low +ℤ sum_below k high ≡ sum_below (n + k)
    f
one_sum n k f low high first second =
    ap (λ z. z +ℤ sum_below k high) (sum_below-same n low f first)
    ∙ ap (λ z. sum_below n f +ℤ z) (sum_below-same k high (λ i. f (n + i)) second)
    ∙ sym (sum_below-split n k f)

three : (a b c d : ℤ) → a +ℤ b ≡ d → a +ℤ (b +ℤ c) ≡ d +ℤ c
three a b c d e = omega (arith, ints)

-- an element of the list of right sides
pub right_side : (m : Machine) (rows : List SlopeRow) (row : ℕ) (own : SlopeRow) → row < state_count
    m → rows ≡ m.rows → own ≡ get_or rows row own → own ≡ row_at m row
right_side m rows row own inside are is = is ∙ ap (λ (list : List SlopeRow). get_or list row own)
    are ∙ get_or_default m.rows row own no_row (omega (arith, inside, m.has_rows.one_each))

module _ (m : Machine) (row : ℕ) (inside : row < state_count m) (inputs : List FunctionInput)
    (are : AreInputs m row inputs) where
  -- the mode coefficient of a variable at the inputs
  abbrev pub mode_at : ℕ → ℤ
  mode_at var = mode_coefficient m.f (state_count m) (row_at m row) (input_discretes m inputs) var

  pub is_row : IsRow (state_count m) (discrete_count m) (row_at m row)
  is_row = m.has_rows.each row no_row (omega (arith, inside, m.has_rows.one_each))

  levels_many : length (input_levels m inputs) ≡ state_count m
  levels_many = length-map-range_with_len (input_value inputs) 0 (state_count m)

  discretes_many : length (input_discretes m inputs) ≡ discrete_count m
  discretes_many = length-map-range_with_len (λ g. input_value inputs (state_count m + g)) 0
      (discrete_count m)

  -- a discrete variable has no products of its own
  no_product : (var : ℕ) → state_count m ≤ var → IsFree (row_at m row).products var
  no_product var high k d within same = omega (
    arith,
    is_row.products.of_states k d within,
    same,
    high,
  )

  own_coefficient : (var : ℕ) → state_count m ≤ var → mode_at var ≡ coefficient_of
      (row_at m row).entries var
  own_coefficient var high = own_mode m.f (state_count m) (row_at m row) (input_discretes m inputs)
      var (no_product var high)

  entries_known : All (λ entry. entry.var < state_count m + discrete_count m)
      (map value_entry inputs)
  entries_known k d within =
      let few : k < length inputs = omega (arith, within, length-map inputs value_entry) in
      subst (λ (entry : Entry). entry.var < state_count m + discrete_count m)
      (sym (get_or-map value_entry inputs k no_input d few)) (are.known k no_input few)

  plain_known : All (λ entry. entry.var < state_count m + discrete_count m)
      (map plain (map value_entry inputs))
  plain_known k d within =
      let few : k < length (map value_entry inputs) = omega (
        arith,
        within,
        length-map
            (map value_entry inputs) plain,
      ) in
      let none : Entry = value_entry no_input in
      subst (λ (entry : Entry). entry.var < state_count m + discrete_count m)
      (sym (get_or-map plain (map value_entry inputs) k none d few)) (entries_known k none few)

  pub slope_is : slope_of m.f (row_at m row) (input_levels m inputs) (input_discretes m inputs) ≡
      sum_over (λ input. mode_at input.var *ℤ input.value) inputs +ℤ (row_at m row).beta
  slope_is =
      let right : ℕ → ℕ → ℤ = λ n k.
      sum_below n (λ i. mode_coefficient m.f n (row_at m row) (input_discretes m inputs) i *ℤ int_at
      (input_levels m inputs) i)
      +ℤ (sum_below k (λ g. coefficient_of (row_at m row).entries (n + g) *ℤ int_at
      (input_discretes m inputs) g) +ℤ (row_at m row).beta) in
      let entries : List Entry = map value_entry inputs in
      let n : ℕ = state_count m in
      let f : ℕ → ℤ = λ i. mode_at i *ℤ coefficient_of entries i in
      let all : sum_below n (λ i. mode_at i *ℤ int_at (input_levels m inputs) i) +ℤ sum_below
      (discrete_count m) (λ g. coefficient_of (row_at m row).entries (n + g) *ℤ int_at
      (input_discretes m inputs) g) ≡ sum_below (n + discrete_count m) f =
      one_sum n (discrete_count m) f _ _
      (λ i h. ap (λ z. mode_at i *ℤ z) (int_at-tabulate n (input_value inputs) i h ∙ value_is inputs
      i))
      (λ g h.
      ap (λ z. z *ℤ int_at (input_discretes m inputs) g) (sym
      (own_coefficient (n + g) (omega arith)))
      ∙ ap (λ z. mode_at (n + g) *ℤ z) (int_at-tabulate (discrete_count m)
      (λ g. input_value inputs (n + g)) g h ∙ value_is inputs (n + g))) in
      ap (λ k. right k (length (input_discretes m inputs))) levels_many ∙ ap (right n)
      discretes_many
      ∙ three _ _ (row_at m row).beta _ (all ∙ sum_by_entries entries (n + discrete_count m) mode_at
      entries_known ∙ sum_over-map value_entry (λ entry. mode_at entry.var *ℤ entry.coef)
      inputs)

  -- the size of a variable's value
  size_is : (var : ℕ) → abs_of (input_value inputs var) ≡ coefficient_of
      (map plain (map value_entry inputs)) var
  size_is var =
      let entries : List Entry = map value_entry inputs in
      ap abs_of (value_is inputs var) ∙ sym (coefficient_size entries var
      (entries_rise inputs are.valued.rising))
      ∙ sym (sum_over-map plain (λ (entry : Entry). if entry.var == var then entry.coef else pos 0)
      entries)

  pub weight_is : weight_of m.f (row_at m row) (input_levels m inputs) (input_discretes m inputs) ≡
      sum_over (λ input. abs_of (mode_at input.var *ℤ input.value)) inputs +ℤ abs_of
      (row_at m row).beta
  weight_is =
      let right : ℕ → ℕ → ℤ = λ n k.
      sum_below n (λ i. abs_of (mode_coefficient m.f n (row_at m row) (input_discretes m inputs) i)
      *ℤ abs_of (int_at (input_levels m inputs) i))
      +ℤ (sum_below k (λ g. abs_of (coefficient_of (row_at m row).entries (n + g)) *ℤ abs_of
      (int_at (input_discretes m inputs) g)) +ℤ abs_of (row_at m row).beta) in
      let entries : List Entry = map value_entry inputs in
      let n : ℕ = state_count m in
      let size : ℕ → ℤ = λ i. abs_of (mode_at i) in
      let f : ℕ → ℤ = λ i. size i *ℤ coefficient_of (map plain entries) i in
      let all : sum_below n (λ i. size i *ℤ abs_of (int_at (input_levels m inputs) i)) +ℤ sum_below
      (discrete_count m) (λ g. abs_of (coefficient_of (row_at m row).entries (n + g)) *ℤ abs_of
      (int_at (input_discretes m inputs) g)) ≡ sum_below (n + discrete_count m) f =
      one_sum n (discrete_count m) f _ _
      (λ i h. ap (λ z. size i *ℤ z) (ap abs_of (int_at-tabulate n (input_value inputs) i h) ∙
      size_is i))
      (λ g h.
      ap (λ z. abs_of z *ℤ abs_of (int_at (input_discretes m inputs) g))
      (sym (own_coefficient (n + g) (omega arith)))
      ∙ ap (λ z. size (n + g) *ℤ z) (ap abs_of (int_at-tabulate (discrete_count m)
      (λ g. input_value inputs (n + g)) g h) ∙ size_is (n + g))) in
      ap (λ k. right k (length (input_discretes m inputs))) levels_many ∙ ap (right n)
      discretes_many
      ∙ three _ _ (abs_of (row_at m row).beta) _
      (all ∙ sum_by_entries (map plain entries) (n + discrete_count m) size plain_known
      ∙ sum_over-map plain (λ entry. size entry.var *ℤ entry.coef) entries
      ∙ sum_over-map value_entry (λ entry. size entry.var *ℤ abs_of entry.coef) inputs
      ∙ sum_over-same (λ input. size input.var *ℤ abs_of input.value)
      (λ input. abs_of (mode_at input.var *ℤ input.value)) inputs
      (λ k d within. size-mul (mode_at (get_or inputs k d).var) (get_or inputs k d).value))

  -- ---- mode coefficients within the limit

  pub all_fit : ((k : ℕ) → k < length inputs → exceeds 44 (mode_at (get_or inputs k no_input).var) ≡
      false) →
      mode_fits m.f (state_count m) (row_at m row) (input_discretes m inputs) ≡ true
  all_fit fit = fits_true (state_count m) mode_at (λ i h. elim
      (cases_Bool (is_listed (input_vars inputs) i)) [
        | inl listed ↦ (let found = input_place inputs i listed in subst
            (λ (var : ℕ). exceeds 44 (mode_at var) ≡ false) (found.2 no_input) (fit found.0 found.1))
        | inr other ↦ ap (exceeds 44) (unread_mode m.f (state_count m) (row_at m row)
            (input_discretes m inputs) i (sym (are.reads i) ∙ other)) ∙ refl
      ])

  pub one_exceeds : (var : ℕ) → exceeds 44 (mode_at var) ≡ true → mode_fits m.f (state_count m)
      (row_at m row) (input_discretes m inputs) ≡ false
  one_exceeds var large = elim (cases_lt var (state_count m)) [
    | inl low ↦ fits_false (state_count m) var mode_at low large
    | inr high ↦
        let small : exceeds 44 (mode_at var) ≡ false = own_mode_fits m.f (state_count m)
        (discrete_count m) (row_at m row) (input_discretes m inputs) var is_row
        (no_product var high) in
        absurd (cc)
  ]

  -- ---- the sum of the row

  -- a mode coefficient exceeds its limit
  pub over_mode : mode_fits m.f (state_count m) (row_at m row) (input_discretes m inputs) ≡ false →
      pos (2 ^ 88 + 1) ≡ sum_at m row (input_levels m inputs) (input_discretes m inputs)
  over_mode none =
      sym (if-true (exceeds_row_limits m (input_levels m inputs) (input_discretes m inputs)
      (row_at m row)) _ _
      (ap (λ fits. not fits || exceeds 88 (weight_of m.f (row_at m row) (input_levels m inputs)
      (input_discretes m inputs))) none))

  module _ (fit : mode_fits m.f (state_count m) (row_at m row) (input_discretes m inputs) ≡ true)
    where
      limits_are : exceeds_row_limits m (input_levels m inputs) (input_discretes m inputs)
          (row_at m row) ≡ exceeds 88 (sum_over (λ input. abs_of (mode_at input.var *ℤ input.value))
          inputs +ℤ abs_of (row_at m row).beta)
      limits_are =
          ap (λ fits. not fits || exceeds 88 (weight_of m.f (row_at m row) (input_levels m inputs)
          (input_discretes m inputs))) fit
          ∙ ap (exceeds 88) weight_is

      -- the absolute row sum exceeds its limit
      pub over_weight : exceeds 88 (sum_over (λ input. abs_of (mode_at input.var *ℤ input.value))
          inputs +ℤ abs_of (row_at m row).beta) ≡ true →
          pos (2 ^ 88 + 1) ≡ sum_at m row (input_levels m inputs) (input_discretes m inputs)
      over_weight large = sym (if-true (exceeds_row_limits m (input_levels m inputs)
          (input_discretes m inputs) (row_at m row)) _ _ (limits_are ∙ large))

      pub within_limits : exceeds 88 (sum_over (λ input. abs_of (mode_at input.var *ℤ input.value))
          inputs +ℤ abs_of (row_at m row).beta) ≡ false →
          sum_over (λ input. mode_at input.var *ℤ input.value) inputs +ℤ (row_at m row).beta ≡ sum_at
          m row (input_levels m inputs) (input_discretes m inputs)
      within_limits small = sym slope_is ∙ sym (if-false (exceeds_row_limits m (input_levels m inputs)
          (input_discretes m inputs) (row_at m row)) _ _ (limits_are ∙ small))
