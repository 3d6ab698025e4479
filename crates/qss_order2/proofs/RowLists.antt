-- Rows, one state after another.
use Rattle.qss_order2.proofs.Common
use Common.{[], ℕ, ℤ, ◌++◌, ◌+◌, ◌<◌, ◌∙◌, ◌∷◌, ◌≡◌, ap, append_assoc, AreRisingBelow, arith, Bool}
use Common.{flat_map, get_or, if-false, if-true, if◌then◌else◌, index_of, int_at, is_listed, Kind2}
use Common.{length, level_row, List, map, map-range_with_len_more, Place, place_in, place_rows}
use Common.{range_with_len, refl, Row2, rows_of_left, SecondSnapshot, slope_row, sym, tabulate}
use Common.{true}
use Rattle.mu_num.proofs.RisingNumbers.{rows_among}
use Rattle.mu_num.proofs.Writes.{among_head, among_rest}

map-same : (xs : List ℕ) → map (λ (x : ℕ). x) xs ≡ xs
map-same [] = refl
map-same (x ∷ xs) = ap (λ ys. x ∷ ys) (map-same xs)

pub range_more : (n : ℕ) → range_with_len 0 (n + 1) ≡ range_with_len 0 n ++ n ∷ []
range_more n = sym (map-same (range_with_len 0 (n + 1))) ∙ map-range_with_len_more (λ (x : ℕ). x)
    0 n n (omega arith) ∙ ap (λ xs. xs ++ n ∷ []) (map-same (range_with_len 0 n))

-- the rows of a state, if it left
abbrev pub left_rows : Kind2 → ℕ → SecondSnapshot → (ℕ → Bool) → ℕ → List Row2
left_rows kind tick w left j = if left j then level_row kind tick w j ∷ slope_row tick w j ∷ [] else
    []

-- one more row
pub row_more : (f : ℕ → Row2) (old now next : List Row2) (j : ℕ) (row : Row2) →
    now ≡ old ++ tabulate j f → next ≡ now ++ row ∷ [] → row ≡ f j → next ≡ old ++ tabulate (j + 1)
    f
row_more f old now next j row so_far added own =
    added ∙ ap (λ r. now ++ r ∷ []) own ∙ ap (λ xs. xs ++ f j ∷ []) so_far
    ∙ append_assoc old (tabulate j f) (f j ∷ [])
    ∙ ap (λ xs. old ++ xs) (sym (map-range_with_len_more f 0 j j (omega arith)))

-- the rows of listed states, at a world that has their values, are those of the states that left
pub listed_rows : (kind : Kind2) (tick n : ℕ) (places : List Place) (changes : List ℤ)
    (w : SecondSnapshot) (left : List ℕ) → AreRisingBelow n left →
    ((j : ℕ) → is_listed left j ≡ true → (place_in places j).level ≡ int_at w.levels j) →
    ((j : ℕ) → is_listed left j ≡ true → (place_in places j).state ≡ int_at w.states j) →
    ((j : ℕ) → is_listed left j ≡ true → int_at changes j ≡ int_at w.changes j) →
    flat_map (place_rows kind tick places changes) left ≡ rows_of_left kind tick w (is_listed left)
    n
listed_rows kind tick n places changes w left numbers levels states same =
    each_same left (λ j e. e)
    ∙ sym (rows_among (left_rows kind tick w (is_listed left)) n 0 left numbers.rising (λ j e.
    let found = index_of left j e in (omega arith, below j found.0 found.1 found.2))
    (λ j h none. if-false (is_listed left j) (level_row kind tick w j ∷ slope_row tick w j ∷ [])
    [] none))
  where
    below : (j i : ℕ) → i < length left → get_or left i 0 ≡ j → j < 0 + n
    below j i h e = omega (arith, numbers.below i 0 h, e)

    one : (j : ℕ) → is_listed left j ≡ true → place_rows kind tick places changes j ≡ left_rows kind
        tick w (is_listed left) j
    one j e =
        rw (levels j e, states j e, same j e) (sym (if-true (is_listed left j)
        (level_row kind tick w j ∷ slope_row tick w j ∷ []) [] e))

    each_same : (some : List ℕ) → ((j : ℕ) → is_listed some j ≡ true → is_listed left j ≡ true) →
        flat_map (place_rows kind tick places changes) some ≡ flat_map (left_rows kind tick w
        (is_listed left)) some
    each_same [] inside = refl
    each_same (j ∷ some) inside =
        ap (λ rows. rows ++ flat_map (place_rows kind tick places changes) some)
        (one j (inside j (among_head j some)))
        ∙ ap (λ rows. left_rows kind tick w (is_listed left) j ++ rows)
        (each_same some (λ i e. inside i (among_rest j some i e)))
