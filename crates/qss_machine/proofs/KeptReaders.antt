-- The rows and the conditions that read each variable.
use Rattle.qss_machine.proofs.Common
use Common.{[], ℕ, ℤ, ◌++◌, ◌+◌, ◌<◌, ◌∙◌, ◌∷◌, ◌≡◌, ◌≤◌, All, All-cons, All-head, All-nil}
use Common.{All-tail, ap, arith, Bool, cases_lt, condition_reads, conditions, discrete_count, false}
use Common.{flat_map, get_or, get_or-map-range_with_len, if◌then◌else◌, inl, inr, is_listed}
use Common.{IsStrictlyIncreasing, length, length-map-range_with_len, List, Machine, places_from}
use Common.{reading_coefficients, reading_conditions, reading_rows, refl, row_reads, state_count}
use Common.{subst, sym, true, uses_of}
use Rattle.mu_num.proofs.RisingNumbers.{rising_cons}
use Rattle.mu_num.proofs.Writes.{among_at}
use Rattle.mu_num.specs.ListedPlaces.{AreRisingBelow}
use Rattle.qss_machine.proofs.Among.{before_first}

if_below : (n : ℕ) (b : Bool) (first : ℕ) (rest : List ℕ) → first < n → All (λ k. k < n) rest → All (λ k. k < n) (if b then first ∷ rest else rest)
if_below n true first rest h all = All-cons (λ k. k < n) first rest h all
if_below n false first rest h all = all

pub places_below : {X : Type 0} (test : X → Bool) (first n : ℕ) (xs : List X) → first + length xs ≤ n → All (λ k. k < n) (places_from test first xs)
places_below test first n [] h = All-nil (λ k. k < n)
places_below test first n (x ∷ xs) h =
    if_below n (test x) first (places_from test (first + 1) xs) (omega (arith, h)) (places_below test (first + 1) n xs (omega (arith, h)))

pub rows_known : (m : Machine) (var : ℕ) → All (λ row. row < state_count m) (reading_rows m var)
rows_known m var = places_below (row_reads var) 0 (state_count m) m.rows (omega (arith, m.has_rows.one_each))

-- the places that pass a test are increasing
pub places_rise : {X : Type 0} (test : X → Bool) (i : ℕ) (xs : List X) → IsStrictlyIncreasing (places_from test i xs)
places_rise test i [] = λ k h. absurd (omega (arith, h))
places_rise test i (x ∷ xs) = by_test (test x) (places_rise test (i + 1) xs)
  where
    after : (0 < length (places_from test (i + 1) xs)) → i < get_or (places_from test (i + 1) xs) 0 0
    after h =
        let rest : List ℕ = places_from test (i + 1) xs in
        elim (cases_lt i (get_or rest 0 0)) [
          | inl less ↦ less
          | inr past ↦
              let no : is_listed rest (get_or rest 0 0) ≡ false = before_first test (i + 1) xs (get_or rest 0 0) (omega (arith, past)) in
              let yes : is_listed rest (get_or rest 0 0) ≡ true = among_at rest 0 h in
              absurd (cc)
        ]

    by_test : (b : Bool) → IsStrictlyIncreasing (places_from test (i + 1) xs) → IsStrictlyIncreasing (if b then i ∷ places_from test (i + 1) xs else places_from test (i + 1) xs)
    by_test true rest = rising_cons i (places_from test (i + 1) xs) after rest
    by_test false rest = rest

-- the indices of the rows that read a variable are increasing, and are indices of states
pub reading_numbers : (m : Machine) (var n : ℕ) → n ≡ state_count m → AreRisingBelow n (reading_rows m var)
reading_numbers m var n e = record { rising = places_rise (row_reads var) 0 m.rows; below = subst (λ (k : ℕ). All (λ row. row < k) (reading_rows m var)) (sym e) (rows_known m var) }

-- those that are kept for a variable are those that read it
module _ (m : Machine) (uses : List (List ℕ) × List (List ℕ) × List (List ℤ)) (are : uses ≡ uses_of m) where
  pub rows_many : length uses.0 ≡ state_count m + discrete_count m
  rows_many =
      ap (λ (u : List (List ℕ) × List (List ℕ) × List (List ℤ)). length u.0) are ∙ length-map-range_with_len (reading_rows m) 0 (state_count m + discrete_count m)

  pub conditions_many : length uses.1 ≡ state_count m + discrete_count m + discrete_count m
  conditions_many =
      ap (λ (u : List (List ℕ) × List (List ℕ) × List (List ℤ)). length u.1) are ∙ length-map-range_with_len (reading_conditions m) 0 (state_count m + discrete_count m + discrete_count m)

  pub rows_kept : (var : ℕ) → var < state_count m + discrete_count m → get_or uses.0 var [] ≡ reading_rows m var
  rows_kept var h =
      ap (λ (u : List (List ℕ) × List (List ℕ) × List (List ℤ)). get_or u.0 var []) are
      ∙ get_or-map-range_with_len (reading_rows m) 0 (state_count m + discrete_count m) var var [] h (omega arith)

  pub conditions_kept : (var : ℕ) → var < state_count m + discrete_count m + discrete_count m → get_or uses.1 var [] ≡ reading_conditions m var
  conditions_kept var h =
      ap (λ (u : List (List ℕ) × List (List ℕ) × List (List ℤ)). get_or u.1 var []) are
      ∙ get_or-map-range_with_len (reading_conditions m) 0 (state_count m + discrete_count m + discrete_count m) var var [] h (omega arith)

  -- the coefficients that are kept
  pub coefficients_many : length uses.2 ≡ state_count m + discrete_count m
  coefficients_many =
      ap (λ (u : List (List ℕ) × List (List ℕ) × List (List ℤ)). length u.2) are ∙ length-map-range_with_len (reading_coefficients m) 0 (state_count m + discrete_count m)

  pub coefficients_kept : (var : ℕ) → var < state_count m + discrete_count m → get_or uses.2 var [] ≡ reading_coefficients m var
  coefficients_kept var h =
      ap (λ (u : List (List ℕ) × List (List ℕ) × List (List ℤ)). get_or u.2 var []) are
      ∙ get_or-map-range_with_len (reading_coefficients m) 0 (state_count m + discrete_count m) var var [] h (omega arith)

  pub rows_below : (var : ℕ) → var < state_count m + discrete_count m → (n : ℕ) → state_count m ≤ n → All (λ row. row < n) (get_or uses.0 var [])
  rows_below var h n many = subst (All (λ row. row < n)) (sym (rows_kept var h)) (places_below (row_reads var) 0 n m.rows (omega (arith, many, m.has_rows.one_each)))

  pub conditions_below : (var : ℕ) → var < state_count m + discrete_count m + discrete_count m → (n : ℕ) → length (conditions m) ≤ n → All (λ place. place < n) (get_or uses.1 var [])
  conditions_below var h n many = subst (All (λ place. place < n)) (sym (conditions_kept var h)) (places_below (condition_reads var) 0 n (conditions m) (omega (arith, many)))

  -- the rows that are kept for some variables
  pub rows_kept_all : (variables : List ℕ) → All (λ var. var < state_count m + discrete_count m) variables → flat_map (λ var. get_or uses.0 var []) variables ≡ flat_map (reading_rows m) variables
  rows_kept_all [] all = refl
  rows_kept_all (var ∷ variables) all =
      ap (λ rows. rows ++ flat_map (λ (v : ℕ). get_or uses.0 v []) variables) (rows_kept var (All-head (λ v. v < state_count m + discrete_count m) var variables all))
      ∙ ap (λ rows. reading_rows m var ++ rows) (rows_kept_all variables (All-tail (λ v. v < state_count m + discrete_count m) var variables all))
