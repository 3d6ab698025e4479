-- The inputs of a row at the start, variable by variable.
use Rattle.qss_devs.proofs.Common
use Common.{[], ℕ, ◌++◌, ◌+◌, ◌-◌, ◌<◌, ◌==◌, ◌||◌, ◌∙◌, ◌∷◌, ◌≡◌, ◌≤◌, All, All-push, among_rows}
use Common.{ap, AreFirstInputs, AreInputs, AreRisingBelow, arith, Bool, cases_Bool, cases_eq}
use Common.{cases_lt, discrete_count, EachAt, Entry, eqb-no, eqb-yes, false, FunctionInput, get_or}
use Common.{get_or-map, get_or_append_left, get_or_default, if◌then◌else◌, inl, inr, is_listed}
use Common.{IsWithin, IsWritten, length, List, Machine, nat_lt, nat_tests, no_row, not_before, pos}
use Common.{reading_numbers, reading_rows, refl, row_at, row_coefficient, row_reads, set}
use Common.{start_values, state_count, subst, sym, take, true}
use Rattle.qss_components.specs.FunctionInputs.{input_discretes, input_levels, input_vars}
use Rattle.qss_components.specs.FunctionInputs.{input_value}
use Rattle.qss_devs.specs.Starts.{read_levels, read_discretes, level_or_value}
use Rattle.mu_num.proofs.Writes.{written_more, among_push, among_at, index_of}
use Rattle.std.proofs.lemmas.Bool.{or_from, or_right}
use Rattle.std.proofs.lemmas.List.Folds.{list_any_none}
use Rattle.std.proofs.lemmas.List.{get_or_push, length_push, map_push}
use Rattle.std.specs.List.Sorted.{IsStrictlyIncreasing}
use Rattle.mu_num.proofs.Tables.{tabulate-same}
use Rattle.qss_machine.specs.declared.machine_parts.Product.{Product}
use Rattle.qss_machine.specs.MachineLimits.{IsRow}
use Rattle.qss_machine.proofs.Distinct.{coefficient_small}
use Rattle.qss_components.proofs.InputPlaces.{no_input, input_place, others, vars_many}
use Rattle.qss_components.proofs.InputValues.{value_at, no_value}
use Rattle.qss_devs.proofs.Begun.{level_small, discrete_small}

-- ---- variables that no row reads

module _ (m : Machine) (j : ℕ) (h : j < state_count m) where
  is_row : IsRow (state_count m) (discrete_count m) (row_at m j)
  is_row = m.has_rows.each j no_row (omega (arith, h, m.has_rows.one_each))

  pub coefficient_within : (var : ℕ) → IsWithin 44 (row_coefficient m j var)
  coefficient_within var = coefficient_small (row_at m j).entries var is_row.entries.rising
      is_row.coefficients

  unread_past : (var : ℕ) → state_count m + discrete_count m ≤ var →
      row_reads var (row_at m j) ≡ false
  unread_past var past = or_from _ _
      (list_any_none (λ (entry : Entry). entry.var == var) (row_at m j).entries
      (λ k d within. eqb-no _ var (λ e. omega (arith, e, is_row.entries.known k d within, past))))
      (list_any_none (λ (product : Product). product.state == var || product.discrete == var)
      (row_at m j).products (λ k d within. or_from _ _
      (eqb-no _ var (λ e. omega (arith, e, is_row.products.of_states k d within, past)))
      (eqb-no _ var (λ e. omega (arith, e, (is_row.products.of_discretes k d within).1, past)))))

-- ---- one more variable

rising_push : (found : List ℕ) (number : ℕ) → IsStrictlyIncreasing found → All (λ j. j < number)
    found → IsStrictlyIncreasing (found ++ number ∷ [])
rising_push found number rising beyond k h =
    let inside : k < length found = omega (arith, h, length_push found number) in
    elim (cases_lt (k + 1) (length found)) [
      | inl less ↦
          rw (get_or_append_left found (number ∷ []) 0 k, get_or_append_left found (number ∷ []) 0 (k + 1))
          (rising k less)
      | inr last ↦
          let many : length found ≡ k + 1 = omega (arith, last, inside) in
          rw (get_or_append_left found (number ∷ []) 0 k, get_or_push found number 0 (k + 1) many)
          (beyond k 0 inside)
    ]

-- a number past all others is not listed
unlisted_past : (numbers : List ℕ) (past number : ℕ) → All (λ j. j < past) numbers → past ≤ number →
    is_listed numbers number ≡ false
unlisted_past numbers past number below h = elim (cases_Bool (is_listed numbers number)) [
  | inl listed ↦ (let found = index_of numbers number listed in absurd
      (omega (arith, below found.0 0 found.1, found.2, h)))
  | inr other ↦ other
]

module _ (m : Machine) (past j : ℕ) (inputs : List FunctionInput)
    (are : AreFirstInputs m past j inputs) where
  vars_below : All (λ (var : ℕ). var < past) (input_vars inputs)
  vars_below k d within =
      let inside : k < length inputs = omega (arith, within, vars_many inputs) in
      subst (λ (var : ℕ). var < past) (sym (get_or-map (λ (input : FunctionInput). input.var) inputs
      k no_input d inside)) (are.below k no_input inside)

  -- a variable that the row does not read
  pub first_unread : row_reads past (row_at m j) ≡ false → AreFirstInputs m (past + 1) j inputs
  first_unread unread = record {
    rising = are.rising;
    below = λ k d within. omega (arith, are.below k d within);
    reads = λ var low. elim (cases_eq var past) [
      | inl e ↦ unlisted_past (input_vars inputs) past var vars_below (omega (arith, e)) ∙ sym
          (ap (λ v. row_reads v (row_at m j)) e ∙ unread)
      | inr ne ↦ are.reads var (grind (arith, low, ne))
    ];
    own = are.own;
    values = are.values;
  }

  -- a variable that the row reads
  module _ (input : FunctionInput) (is_var : input.var ≡ past) where
    pushed : input_vars (inputs ++ input ∷ []) ≡ input_vars inputs ++ past ∷ []
    pushed = map_push (λ (input : FunctionInput). input.var) inputs input ∙ ap
        (λ var. input_vars inputs ++ var ∷ []) is_var

    pub first_read : row_reads past (row_at m j) ≡ true → input.coef ≡ row_coefficient m j past →
        input.value ≡ level_or_value m (start_values m) past → AreFirstInputs m (past + 1) j
        (inputs ++ input ∷ [])
    first_read reads own value = record {
      rising = subst IsStrictlyIncreasing (sym pushed) (rising_push (input_vars inputs) past
          are.rising vars_below);
      below = All-push (λ (i : FunctionInput). i.var < past + 1) inputs input
          (λ k d within. omega (arith, are.below k d within)) (omega (arith, is_var));
      reads = λ var low. ap (λ vars. is_listed vars var) pushed ∙ among_push (input_vars inputs)
          past var ∙ elim (cases_eq past var) [
            | inl e ↦ listed (is_listed (input_vars inputs) var) (past == var) (eqb-yes past var e) ∙
                sym (ap (λ v. row_reads v (row_at m j)) (sym e) ∙ reads)
            | inr ne ↦ unlisted (is_listed (input_vars inputs) var) (past == var) (eqb-no past var ne) ∙
                are.reads var (grind (arith, low, ne))
          ];
      own = All-push (λ (i : FunctionInput). i.coef ≡ row_coefficient m j i.var) inputs input
          are.own (own ∙ ap (row_coefficient m j) (sym is_var));
      values = All-push (λ (i : FunctionInput). i.value ≡ level_or_value m (start_values m) i.var)
          inputs input are.values (value ∙ ap (level_or_value m (start_values m)) (sym is_var));
    }
      where
        listed : (a b : Bool) → b ≡ true → (a || (b || false)) ≡ true
        listed a b e = rw e (or_right a true refl)

        unlisted : (a b : Bool) → b ≡ false → (a || (b || false)) ≡ a
        unlisted true b e = refl
        unlisted false b e = rw e

pub first_none : (m : Machine) (j : ℕ) → AreFirstInputs m 0 j []
first_none m j = record {
  rising = λ k h. absurd (omega (arith, h));
  below = λ k d h. absurd (omega (arith, h));
  reads = λ var low. absurd (omega (arith, low));
  own = λ k d h. absurd (omega (arith, h));
  values = λ k d h. absurd (omega (arith, h));
}

-- ---- all variables

module _ (m : Machine) (j : ℕ) (h : j < state_count m) (inputs : List FunctionInput)
    (are : AreFirstInputs m (state_count m + discrete_count m) j inputs) where
  value_within : (var : ℕ) → var < state_count m + discrete_count m → IsWithin 43
      (level_or_value m (start_values m) var)
  value_within var known = elim (cases_lt var (state_count m)) [
    | inl low ↦
        let yes : nat_lt var (state_count m) ≡ true = grind (arith, nat_tests) in
        rw yes (level_small m var low)
    | inr high ↦
        let no : nat_lt var (state_count m) ≡ false = grind (arith, nat_tests) in
        rw no (discrete_small m (var - state_count m) (omega (arith, high, known)))
  ]

  all_reads : (var : ℕ) → is_listed (input_vars inputs) var ≡ row_reads var (row_at m j)
  all_reads var = elim (cases_lt var (state_count m + discrete_count m)) [
    | inl low ↦ are.reads var low
    | inr past ↦
        unlisted_past (input_vars inputs) (state_count m + discrete_count m) var
        (vars_below m (state_count m + discrete_count m) j inputs are) past
        ∙ sym (unread_past m j h var past)
  ]

  pub all_inputs : AreInputs m j inputs
  all_inputs = record {
    valued = record {
      rising = are.rising;
      small = λ k d within. subst (IsWithin 43) (sym (are.values k d within))
          (value_within (get_or inputs k d).var (are.below k d within));
    };
    known = are.below;
    reads = all_reads;
    own = are.own;
  }

  -- the value of a variable, or 0 if the row does not read it
  value_of : (var : ℕ) → input_value inputs var ≡ (if row_reads var (row_at m j) then level_or_value
      m (start_values m) var else pos 0)
  value_of var = elim (cases_Bool (is_listed (input_vars inputs) var)) [
    | inl listed ↦
        let found = input_place inputs var listed in
        let reads : row_reads var (row_at m j) ≡ true = sym (all_reads var) ∙ listed in
        rw reads
        (value_at inputs var found.0 no_input are.rising found.1 (found.2 no_input)
        ∙ are.values found.0 no_input found.1
        ∙ ap (level_or_value m (start_values m)) (found.2 no_input))
    | inr other ↦
        let unread : row_reads var (row_at m j) ≡ false = sym (all_reads var) ∙ other in
        rw unread (no_value inputs var (others inputs var other))
  ]

  pub all_levels : input_levels m inputs ≡ read_levels m j (start_values m).levels
  all_levels = tabulate-same (pos 0) (state_count m) _ _ (λ i low.
      let yes : nat_lt i (state_count m) ≡ true = grind (arith, nat_tests) in
      value_of i ∙ rw yes)

  pub all_discretes : input_discretes m inputs ≡ read_discretes m j (start_values m).discretes
  all_discretes = tabulate-same (pos 0) (discrete_count m) _ _ (λ g low.
      let no : nat_lt (state_count m + g) (state_count m) ≡ false = grind (arith, nat_tests) in
      let there : state_count m + g - state_count m ≡ g = omega arith in
      value_of (state_count m + g) ∙ rw (no, there))

-- ---- the rows that read a variable

module _ (m : Machine) (var : ℕ) (rows : List ℕ) (are : rows ≡ reading_rows m var)
    (old now : List (List FunctionInput)) (many : length now ≡ state_count m)
    (before : EachAt (AreFirstInputs m var) old) where
  -- one more row has an input of it
  pub row_more : (k : ℕ) (input : FunctionInput) → k < length rows → IsWritten []
      (AreFirstInputs m (var + 1)) (take k rows) old now →
      input.var ≡ var → input.coef ≡ row_coefficient m (get_or rows k 0) var → input.value ≡
      level_or_value m (start_values m) var →
      IsWritten [] (AreFirstInputs m (var + 1)) (take (k + 1) rows) old
      (set now (get_or rows k 0) (get_or now (get_or rows k 0) [] ++ input ∷ []))
  row_more k input inside written is_var own value =
      let at : ℕ = get_or rows k 0 in
      let numbers : AreRisingBelow (state_count m) rows = subst (AreRisingBelow (state_count m))
      (sym are) (reading_numbers m var (state_count m) refl) in
      let known : at < state_count m = numbers.below k 0 inside in
      let same : get_or now at [] ≡ get_or old at [] = written.others at
      (not_before rows k numbers.rising inside) in
      let here : AreFirstInputs m var at (get_or now at []) =
      rw same (before at [] (omega (arith, known, many, written.as_many))) in
      let reads : row_reads var (row_at m at) ≡ true =
      sym (among_rows m var at known) ∙ rw (← are) (among_at rows k inside) in
      written_more [] (AreFirstInputs m (var + 1)) rows old now k (get_or now at [] ++ input ∷ [])
      inside (omega (arith, known, many)) written
      (first_read m var at (get_or now at []) here input is_var reads own value)

  -- all of them have one
  pub rows_done : IsWritten [] (AreFirstInputs m (var + 1)) rows old now → EachAt
      (AreFirstInputs m (var + 1)) now
  rows_done written place d inside =
      let known : place < state_count m = omega (arith, inside, many) in
      subst (AreFirstInputs m (var + 1) place) (sym (get_or_default now place d [] inside))
      (elim (cases_Bool (is_listed rows place)) [
        | inl listed ↦ written.each place listed
        | inr other ↦
            let unread : row_reads var (row_at m place) ≡ false = sym (among_rows m var place known)
            ∙ ap (λ rs. is_listed rs place) (sym are) ∙ other in
            subst (AreFirstInputs m (var + 1) place) (sym (written.others place other))
            (first_unread m var place (get_or old place []) (before place []
            (omega (arith, inside, written.as_many))) unread)
      ])
