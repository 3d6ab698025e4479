-- The numbers in a list of indices.
use Rattle.qss_machine.proofs.Common
use Common.{[], ℕ, ◌&&◌, ◌++◌, ◌+◌, ◌<◌, ◌==◌, ◌||◌, ◌∙◌, ◌∷◌, ◌≡◌, ap, append-nil, arith, Bool}
use Common.{eqb-no, eqb-yes, false, flat_map, flat_map-append, get_or, if◌then◌else◌, is_listed}
use Common.{length, List, list_any, list_any-append, Machine, places_from, pos, reading_rows, refl}
use Common.{row_at, row_reads, state_count, suc, sym, take, take_more, true, zero}
use Rattle.std.proofs.lemmas.Bool.{or_from, and_right}

among_if : (b : Bool) (i : ℕ) (rest : List ℕ) (place : ℕ) → is_listed (if b then i ∷ rest else rest) place ≡ ((b && (i == place)) || is_listed rest place)
among_if true i rest place = refl
among_if false i rest place = refl

settled_and : (b : Bool) → ((b && true) || false) ≡ b
settled_and true = refl
settled_and false = refl

module _ {X : Type 0} (test : X → Bool) where
  pub before_first : (i : ℕ) (xs : List X) (place : ℕ) → place < i → is_listed (places_from test i xs) place ≡ false
  before_first i [] place h = refl
  before_first i (x ∷ xs) place h =
      among_if (test x) i (places_from test (i + 1) xs) place
      ∙ or_from _ _ (and_right (test x) (i == place) (eqb-no i place (λ e. omega (arith, e, h)))) (before_first (i + 1) xs place (omega (arith, h)))

  -- a place is among those that pass a test where its element passes
  pub place_among : (i : ℕ) (xs : List X) (k : ℕ) (d : X) → k < length xs → is_listed (places_from test i xs) (i + k) ≡ test (get_or xs k d)
  place_among i [] k d h = absurd (omega (arith, h))
  place_among i (x ∷ xs) zero d h =
      let e : i + 0 ≡ i = omega arith in
      ap (is_listed (places_from test i (x ∷ xs))) e
      ∙ among_if (test x) i (places_from test (i + 1) xs) i
      ∙ ap (λ b. (test x && b) || is_listed (places_from test (i + 1) xs) i) (eqb-yes i i refl)
      ∙ ap (λ b. (test x && true) || b) (before_first (i + 1) xs i (omega arith))
      ∙ settled_and (test x)
  place_among i (x ∷ xs) (suc k) d h =
      let e : i + suc k ≡ (i + 1) + k = omega arith in
      among_if (test x) i (places_from test (i + 1) xs) (i + suc k)
      ∙ ap (λ b. b || is_listed (places_from test (i + 1) xs) (i + suc k)) (and_right (test x) (i == (i + suc k)) (eqb-no i (i + suc k) (λ q. omega (arith, q))))
      ∙ ap (is_listed (places_from test (i + 1) xs)) e
      ∙ place_among (i + 1) xs k d (omega (arith, h))

-- a row is among the reading ones where it reads
pub among_rows : (m : Machine) (j row : ℕ) → row < state_count m → is_listed (reading_rows m j) row ≡ row_reads j (row_at m row)
among_rows m j row h =
    let e : 0 + row ≡ row = omega arith in
    ap (is_listed (reading_rows m j)) (sym e) ∙ place_among (row_reads j) 0 m.rows row (record { entries = []; products = []; beta = pos 0 }) (omega (arith, h, m.has_rows.one_each))

-- a number is in concatenated lists if it is in one of them
pub among_all : (f : ℕ → List ℕ) (xs : List ℕ) (place : ℕ) → is_listed (flat_map f xs) place ≡ list_any (λ x. is_listed (f x) place) xs
among_all f [] place = refl
among_all f (x ∷ xs) place =
    list_any-append (λ (i : ℕ). i == place) (f x) (flat_map f xs) ∙ ap (λ b. is_listed (f x) place || b) (among_all f xs place)

-- whether a row is among those that read one of these variables is whether it reads one
pub among_readers : (m : Machine) (row : ℕ) → row < state_count m → (variables : List ℕ) →
    is_listed (flat_map (reading_rows m) variables) row ≡ list_any (λ j. row_reads j (row_at m row)) variables
among_readers m row h variables = among_all (reading_rows m) variables row ∙ reads_one variables
  where
    reads_one : (xs : List ℕ) → list_any (λ j. is_listed (reading_rows m j) row) xs ≡ list_any (λ j. row_reads j (row_at m row)) xs
    reads_one [] = refl
    reads_one (j ∷ xs) =
        ap (λ b. b || list_any (λ (i : ℕ). is_listed (reading_rows m i) row) xs) (among_rows m j row h)
        ∙ ap (λ b. row_reads j (row_at m row) || b) (reads_one xs)

-- lists one after another, with that of one more element
pub lists_more : (f : ℕ → List ℕ) (xs : List ℕ) (i : ℕ) → i < length xs → flat_map f (take (i + 1) xs) ≡ flat_map f (take i xs) ++ f (get_or xs i 0)
lists_more f xs i h =
    ap (flat_map f) (take_more xs i 0 h) ∙ flat_map-append f (take i xs) (get_or xs i 0 ∷ []) ∙ ap (λ more. flat_map f (take i xs) ++ more) (append-nil (f (get_or xs i 0)))
