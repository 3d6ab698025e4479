-- Strictly increasing indices.
use Rattle.mu_num.proofs.Common
use Common.{[], ℕ, ◌++◌, ◌+◌, ◌<◌, ◌∙◌, ◌∷◌, ◌≡◌, ◌≢◌, ◌≤◌, ◌⊎◌, ap, arith, both_ways, cases_eq}
use Common.{eqb-true, false, get_or, inl, inr, is_listed, length, List, nat_eq as eqb, or_cases}
use Common.{refl, subst, suc, sym, take, take_more, true, zero}
use Rattle.std.proofs.lemmas.Bool.{ne_eqb, or_from, false_from_ne_true}
use Rattle.std.proofs.lemmas.List.{append-nil, get_or-take, length-take-le}
use Rattle.std.proofs.lemmas.List.Concat.{flat_map-append}
use Rattle.std.proofs.lemmas.List.Kept.{AllPairs-from_increasing}
use Rattle.std.specs.List.{flat_map, range_with_len}
use Rattle.std.specs.List.Sorted.{IsStrictlyIncreasing}
use Rattle.mu_num.specs.ListedPlaces.{AreRisingBelow}
use Rattle.mu_num.proofs.Writes.{index_of, among_head, among_rest}

-- rising numbers are at least their places
rising_from : (moved : List ℕ) → IsStrictlyIncreasing moved → (k : ℕ) → k < length moved → k ≤ get_or moved k 0
rising_from moved rising zero h = omega arith
rising_from moved rising (suc k) h =
    let e : k + 1 ≡ suc k = omega arith in
    let next : get_or moved k 0 < get_or moved (suc k) 0 = subst (λ n. get_or moved k 0 < get_or moved n 0) e (rising k (omega (arith, h))) in
    omega (arith, next, rising_from moved rising k (omega (arith, h)))

-- there are at most n rising numbers below n
pub few_numbers : (n : ℕ) (moved : List ℕ) → AreRisingBelow n moved → length moved ≤ n
few_numbers n moved numbers = by_length (length moved) refl
  where
    by_length : (many : ℕ) → length moved ≡ many → length moved ≤ n
    by_length zero e = omega (arith, e)
    by_length (suc k) e = omega (arith, e, rising_from moved numbers.rising k (omega (arith, e)), numbers.below k 0 (omega (arith, e)))

-- the rows of one more state
pub due_rows_more : {R : Type 0} (f : ℕ → List R) (moved : List ℕ) (i : ℕ) → i < length moved → flat_map f (take (i + 1) moved) ≡ flat_map f (take i moved) ++ f (get_or moved i 0)
due_rows_more f moved i h =
    ap (flat_map f) (take_more moved i 0 h)
    ∙ flat_map-append f (take i moved) (get_or moved i 0 ∷ [])
    ∙ ap (λ rows. flat_map f (take i moved) ++ rows) (append-nil (f (get_or moved i 0)))

-- the numbers after the first of rising ones
pub rising_rest : (first : ℕ) (moved : List ℕ) → IsStrictlyIncreasing (first ∷ moved) → IsStrictlyIncreasing moved
rising_rest first moved rising k h =
    let e : suc k + 1 ≡ suc (k + 1) = omega arith in
    subst (λ n. get_or (first ∷ moved) (suc k) 0 < get_or (first ∷ moved) n 0) e (rising (suc k) (omega (arith, h)))

-- the first of rising numbers is below each of the rest
rising_first : (first : ℕ) (moved : List ℕ) → IsStrictlyIncreasing (first ∷ moved) → (j : ℕ) → is_listed moved j ≡ true → first < j
rising_first first moved rising j e =
    let found = index_of moved j e in
    let pairs = AllPairs-from_increasing (first ∷ moved) rising in
    omega (arith, found.2, pairs 0 (suc found.0) 0 (omega arith) (omega (arith, found.1)))

-- increasing indices from `a` to below a + n: if all others in this range have no rows, their rows are all rows
pub rows_among : {R : Type 0} (f : ℕ → List R) (n a : ℕ) (moved : List ℕ) → IsStrictlyIncreasing moved → ((j : ℕ) → is_listed moved j ≡ true → (a ≤ j) × (j < a + n)) →
    ((j : ℕ) → a ≤ j → is_listed moved j ≡ false → f j ≡ []) → flat_map f (range_with_len a n) ≡ flat_map f moved
rows_among f zero a [] rising inside empty = refl
rows_among f zero a (first ∷ moved) rising inside empty = let at = inside first (among_head first moved) in absurd (omega (arith, at.0, at.1))
rows_among f (suc n) a [] rising inside empty =
    ap (λ rows. rows ++ flat_map f (range_with_len (a + 1) n)) (empty a (omega arith) refl)
    ∙ rows_among f n (a + 1) [] rising (λ j e. absurd (both_ways false refl e)) (λ j h. empty j (omega (arith, h)))
rows_among {R} f (suc n) a (first ∷ moved) rising inside empty =
    by_first
    (λ same. rows_among f n (a + 1) moved (rising_rest first moved rising) (rest_inside same) (rest_empty same))
    (λ less. rows_among f n (a + 1) (first ∷ moved) rising (all_inside less) (λ j h. empty j (omega (arith, h))))
    (cases_eq a first)
  where
    first_at : (a ≤ first) × (first < a + suc n)
    first_at = inside first (among_head first moved)

    rest_inside : a ≡ first → (j : ℕ) → is_listed moved j ≡ true → (a + 1 ≤ j) × (j < (a + 1) + n)
    rest_inside same j e =
        let less : first < j = rising_first first moved rising j e in
        let at = inside j (among_rest first moved j e) in
        (omega (arith, less, same), omega (arith, at.1))

    rest_empty : a ≡ first → (j : ℕ) → a + 1 ≤ j → is_listed moved j ≡ false → f j ≡ []
    rest_empty same j h e =
        let ne : first ≡ j → ⊥ = λ q. omega (arith, h, same, q) in
        empty j (omega (arith, h)) (or_from (eqb first j) (is_listed moved j) (ne_eqb first j ne) e)

    from_first : (j : ℕ) → (eqb first j ≡ true) ⊎ (is_listed moved j ≡ true) → first ≤ j
    from_first j (inl e) = omega (arith, eqb-true first j e)
    from_first j (inr e) = omega (arith, rising_first first moved rising j e)

    all_inside : a < first → (j : ℕ) → is_listed (first ∷ moved) j ≡ true → (a + 1 ≤ j) × (j < (a + 1) + n)
    all_inside less j e =
        let from : first ≤ j = from_first j (or_cases (eqb first j) (is_listed moved j) e) in
        let at = inside j e in
        (omega (arith, less, from), omega (arith, at.1))

    by_first : (a ≡ first → flat_map f (range_with_len (a + 1) n) ≡ flat_map f moved) → (a < first → flat_map f (range_with_len (a + 1) n) ≡ flat_map f (first ∷ moved)) →
        (a ≡ first) ⊎ (a ≢ first) → f a ++ flat_map f (range_with_len (a + 1) n) ≡ f first ++ flat_map f moved
    by_first same differs (inl e) = ap (λ j. f j ++ flat_map f (range_with_len (a + 1) n)) e ∙ ap (λ rows. f first ++ rows) (same e)
    by_first same differs (inr ne) =
        let less : a < first = omega (arith, first_at.0, ne) in
        let off : is_listed (first ∷ moved) a ≡ false =
        or_from (eqb first a) (is_listed moved a) (ne_eqb first a (λ q. ne (sym q))) (false_from_ne_true (is_listed moved a) (λ among. omega (arith, less, rising_first first moved rising a among))) in
        ap (λ rows. rows ++ flat_map f (range_with_len (a + 1) n)) (empty a (omega arith) off) ∙ differs less

-- a smaller number before increasing ones
pub rising_cons : (x : ℕ) (xs : List ℕ) → (0 < length xs → x < get_or xs 0 0) → IsStrictlyIncreasing xs → IsStrictlyIncreasing (x ∷ xs)
rising_cons x xs head rest zero h = head (omega (arith, h))
rising_cons x xs head rest (suc k) h =
    let next : get_or xs k 0 < get_or xs (k + 1) 0 = rest k (omega (arith, h)) in
    let e : suc k + 1 ≡ suc (k + 1) = omega arith in
    subst (λ (i : ℕ). get_or xs k 0 < get_or (x ∷ xs) i 0) (sym e) next

-- a number of an increasing list does not occur earlier in the list
pub not_before : (places : List ℕ) (i : ℕ) → IsStrictlyIncreasing places → i < length places → is_listed (take i places) (get_or places i 0) ≡ false
not_before places i rising h = false_from_ne_true (is_listed (take i places) (get_or places i 0)) (λ e. clash (index_of (take i places) (get_or places i 0) e))
  where
    clash : (k : ℕ) × (k < length (take i places)) × (get_or (take i places) k 0 ≡ get_or places i 0) → ⊥
    clash (k, inside, same) =
        let less : k < i = omega (arith, inside, length-take-le i places (omega (arith, h))) in
        omega (arith, same, get_or-take i places k 0 less, AllPairs-from_increasing places rising k i 0 less h)
