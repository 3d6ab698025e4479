-- The lines of rows, one after another.
use Rattle.qss_rows.proofs.Common
use Common.{[], ℕ, ◌++◌, ◌<◌, ◌∙◌, ◌∷◌, ◌≡◌, ap, append-nil, Bool, bytes_in, cond, false}
use Common.{flat_map-append, get_or, length, line_at, List, Machine, None, Option, refl, Some}
use Common.{text_in, true}
use Rattle.std.proofs.Common.{flat_map}
use Rattle.std.specs.Prelude.{filter}
use Rattle.std.proofs.lemmas.List.{get_or-map, length-map, map-append}
use Rattle.std.proofs.lemmas.List.Elements.{filter-append}
use Rattle.qss_machine.specs.declared.machine_parts.Row.{Row}
use Rattle.qss_rows.specs.Filters.{passes, lines_passed}
use Rattle.qss_rows.specs.RowTexts.{line_of, lines_of}
use Rattle.qss_rows.specs.Simulations.{line_if, lines_by}

-- ---- lines that pass a filter, and those of second-order rows

pub lines_passed-append : (only : Option (List ℕ)) (m : Machine) (xs ys : List Row) → lines_passed only m (xs ++ ys) ≡ lines_passed only m xs ++ lines_passed only m ys
lines_passed-append only m xs ys =
    ap (lines_of m) (filter-append (passes only m) xs ys) ∙ flat_map-append (line_of m) (filter (passes only m) xs) (filter (passes only m) ys)

one_passed : (m : Machine) (row : Row) (b : Bool) → b ≡ true → lines_of m (cond b (row ∷ []) []) ≡ line_of m row
one_passed m row true e = append-nil (line_of m row)
one_passed m row false e = absurd (cc)

-- the line of a row that passes
pub lines_passed-true : (only : Option (List ℕ)) (m : Machine) (row : Row) → passes only m row ≡ true → lines_passed only m (row ∷ []) ≡ line_of m row
lines_passed-true only m row e = one_passed m row (passes only m row) e

-- ---- a line for each row, where it has one

module _ {X : Type 0} (passes : X → Bool) (line : X → List ℕ) where
  abbrev line_by : X → Option (List ℕ)
  line_by x = line_if (passes x) (line x)

  pub lines_by-append : (xs ys : List X) → lines_by passes line (xs ++ ys) ≡ lines_by passes line xs ++ lines_by passes line ys
  lines_by-append xs ys = map-append line_by xs ys

  pub line_at-by : (xs : List X) (i : ℕ) (d : X) → i < length xs → line_at (lines_by passes line xs) i ≡ line_by (get_or xs i d)
  line_at-by xs i d inside = get_or-map line_by xs i d None inside

  pub length-by : (xs : List X) → length (lines_by passes line xs) ≡ length xs
  length-by xs = length-map xs line_by

  text_if : (b : Bool) (x : X) (xs : List X) → bytes_in (line_if b (line x)) ++ flat_map line xs ≡ flat_map line (cond b (x ∷ xs) xs)
  text_if true x xs = refl
  text_if false x xs = refl

  -- one after another they are those of the rows that pass
  pub text_by : (xs : List X) → text_in (lines_by passes line xs) ≡ flat_map line (filter passes xs)
  text_by [] = refl
  text_by (x ∷ xs) = ap (λ (l : List ℕ). bytes_in (line_by x) ++ l) (text_by xs) ∙ text_if (passes x) x (filter passes xs)

  -- rows that are cut at a line
  pub record IsSplit (xs : List X) (front : List (Option (List ℕ))) : Type 0 where
    pub before : List X
    pub row : X
    pub after : List X
    pub parts : before ++ (row ∷ after) ≡ xs
    pub passed : passes row ≡ true
    pub front_is : lines_by passes line before ≡ front

  same_cons : (o p : Option (List ℕ)) (xs ys : List (Option (List ℕ))) → o ≡ p → xs ≡ ys → o ∷ xs ≡ p ∷ ys
  same_cons o p xs ys e f = ap (λ (l : List (Option (List ℕ))). o ∷ l) f ∙ ap (λ (q : Option (List ℕ)). q ∷ ys) e

  some_passes : (b : Bool) (given made : List ℕ) → Some given ≡ line_if b made → b ≡ true
  some_passes true given made e = refl
  some_passes false given made e = absurd (cc)

  split_more : (x : X) (xs : List X) (o : Option (List ℕ)) (front : List (Option (List ℕ))) → line_by x ≡ o → IsSplit xs front → IsSplit (x ∷ xs) (o ∷ front)
  split_more x xs o front first_view s = record {
    before = x ∷ s.before;
    row = s.row;
    after = s.after;
    parts = ap (λ (l : List X). x ∷ l) s.parts;
    passed = s.passed;
    front_is = same_cons (line_by x) o (lines_by passes line s.before) front first_view s.front_is;
  }

  pub split : (xs : List X) (front : List (Option (List ℕ))) (given : List ℕ) (rest : List (Option (List ℕ))) → front ++ (Some given ∷ rest) ≡ lines_by passes line xs → IsSplit xs front
  split [] [] given rest e = absurd (cc)
  split [] (o ∷ front) given rest e = absurd (cc)
  split (x ∷ xs) [] given rest e =
      let first_view : Some given ≡ line_by x = cc in
      record { before = []; row = x; after = xs; parts = refl; passed = some_passes (passes x) given (line x) first_view; front_is = refl }
  split (x ∷ xs) (o ∷ front) given rest e =
      let first_view : line_by x ≡ o = cc in
      let later : front ++ (Some given ∷ rest) ≡ lines_by passes line xs = cc in
      split_more x xs o front first_view (split xs front given rest later)

pub text_all : {X : Type 0} (line : X → List ℕ) (xs : List X) → text_in (lines_by (λ x. true) line xs) ≡ flat_map line xs
text_all line [] = refl
text_all line (x ∷ xs) = ap (λ (l : List ℕ). line x ++ l) (text_all line xs)
